-- Nothing is missing of a drained update of one who is alone.
use Rattle.std.proofs.Common.{◌≡◌, ℕ, ◌==◌, List, [], ◌∷◌, ◌++◌, Bool, true, false, true≢false, refl, sym, ap, ◌∙◌, subst, inl, inr, eq-eqb, append_assoc, append-nil}
use Rattle.std.specs.Prelude.{Option, Some, map, if◌then◌else◌, ⊤}
use Rattle.journal_entries.specs.declared.update.Outcome.TheVariants.{Refused}
use Rattle.journal_entries.specs.declared.update.Cause.TheVariants.{StoreFault}
use Rattle.journal_entries.specs.declared.act.Act.{Act}
use Rattle.journal_entries.specs.declared.act.Act.TheVariants.{Committed, Released}
use Rattle.journal_entries.specs.declared.act.Entry.{Entry}
use Rattle.journal_rules.specs.Locks.{Acquiring, acquired_by, last_acquiring, last_token, next_token, token_in}
use Rattle.journal_rules.specs.Keeping.{cached}
use Rattle.journal_rules.proofs.Pushing.{last_acquiring-push}
use Rattle.turn_rules.specs.Draining.{IsLoad, Caches, TakesUp, Under, IsCommit, IsRelease, Settles, DrainsOne, IsWhole}
use Rattle.turn_rules.specs.Locking.{acquired}
use Rattle.turn_rules.specs.Turns.{Alone, Turn, entry_by}
use Rattle.run_rules.proofs.Alone.{alone_turn}

module _ (seat : ℕ) (line : Option ℕ) (doc : ℕ) where
  abbrev by : Act → Entry
  by = entry_by seat line

  -- an act that takes no lock
  abbrev pub IsStill : Act → Type 0
  IsStill act = (now : Option Acquiring) → acquired_by doc seat act now ≡ now

  abbrev AreStill : List Act → Type 0
  AreStill [] = ⊤
  AreStill (act ∷ acts) = IsStill act × AreStill acts

  pub still_one : (j : List Entry) (act : Act) → IsStill act → last_token doc (j ++ by act ∷ []) ≡ last_token doc j
  still_one j act still = ap token_in (last_acquiring-push doc j (by act) ∙ still (last_acquiring doc j))

  still_all : (acts : List Act) (j : List Entry) → AreStill acts → last_token doc (j ++ map by acts) ≡ last_token doc j
  still_all [] j still = ap (last_token doc) (append-nil j)
  still_all (act ∷ acts) j still =
      ap (last_token doc) (sym (append_assoc j (by act ∷ []) (map by acts))) ∙ still_all acts (j ++ by act ∷ []) still.1 ∙ still_one j act still.0

  if_so : (x y : Option Acquiring) (b : Bool) → b ≡ true → (if b then x else y) ≡ x
  if_so x y true e = refl
  if_so x y false e = absurd (true≢false (sym e))

  taken : (j : List Entry) → last_token doc (j ++ by (acquired doc j) ∷ []) ≡ next_token j
  taken j = ap token_in (last_acquiring-push doc j (by (acquired doc j)) ∙ if_so (Some (record { seat = seat; doc = doc; token = next_token j; until = _ })) (last_acquiring doc j) (doc == doc) (eq-eqb doc doc refl))

  load_still : (ready : Bool) (token : Option ℕ) (act : Act) → IsLoad doc token ready act → IsStill act
  load_still true token act l = subst IsStill (sym l.1) (λ now. refl)
  load_still false token act (inl l) = subst IsStill (sym l.2) (λ now. refl)
  load_still false token act (inr l) = subst IsStill (sym l.2) (λ now. refl)

  loading_still : (here ready : Bool) (token : Option ℕ) (acts : List Act) → Caches here doc token ready acts → AreStill acts
  loading_still true ready token acts c = subst AreStill (sym c.1) tt
  loading_still false ready token acts c = subst AreStill (sym c.2) (load_still ready token c.0 c.1, tt)

  both_still : (acts more : List Act) → AreStill acts → AreStill more → AreStill (acts ++ more)
  both_still [] more still rest = rest
  both_still (act ∷ acts) more still rest = (still.0, both_still acts more still.1 rest)

  -- behind the acquiring the token stands
  pub stands : (acts : List Act) (j : List Entry) → AreStill acts → last_token doc (j ++ map by (acquired doc j ∷ acts)) ≡ next_token j
  stands acts j still =
      ap (last_token doc) (sym (append_assoc j (by (acquired doc j) ∷ []) (map by acts))) ∙ still_all acts (j ++ by (acquired doc j) ∷ []) still ∙ taken j

  -- so a turn under it makes its entry
  pub made_under : (token : ℕ) (Is : Act → Type 0) (left last : List Entry) → last_token doc left ≡ token → Turn Alone (Under by doc token Is) left last → (act : Act) × Is act × (last ≡ left ++ by act ∷ [])
  made_under token Is left last stands t = let a = alone_turn (Under by doc token Is) left last t in of_two a.0 a.1 a.2
    where
      of_two : (made : List Entry) → Under by doc token Is left made → last ≡ left ++ made → (act : Act) × Is act × (last ≡ left ++ by act ∷ [])
      of_two made (inl x) e = (x.0, x.1, e ∙ ap (λ (m : List Entry). left ++ m) x.2)
      of_two made (inr x) e = absurd (x.0 stands)

  pub maps : (xs ys : List Act) → map by xs ++ map by ys ≡ map by (xs ++ ys)
  maps [] ys = refl
  maps (x ∷ xs) ys = ap (λ (m : List Entry). by x ∷ m) (maps xs ys)

  -- acts behind others
  behind : (xs ys zs : List Act) (left : List Entry) → left ++ map by (xs ++ ys) ++ map by zs ≡ left ++ map by (xs ++ (ys ++ zs))
  behind xs ys zs left =
      append_assoc left (map by (xs ++ ys)) (map by zs)
      ∙ ap (λ (m : List Entry). left ++ m) (maps (xs ++ ys) zs ∙ ap (λ (acts : List Act). map by acts) (append_assoc xs ys zs))

  settled : (ready : Bool) (token : ℕ) (made left mid last : List Entry) → TakesUp by doc token ready left made → mid ≡ left ++ made → Settles by Alone ready doc token mid last → IsWhole by doc left last
  settled true token made left mid last t mid_is s =
      let still : AreStill (t.loading ++ []) = both_still t.loading [] (loading_still (cached doc left) true (Some token) t.loading t.caches) tt in
      let at : mid ≡ left ++ map by (acquired doc left ∷ t.loading ++ []) = mid_is ∙ ap (λ (m : List Entry). left ++ m) t.made_is in
      let token_stands : last_token doc mid ≡ token = ap (last_token doc) at ∙ stands (t.loading ++ []) left still ∙ sym t.token_is in
      let c = made_under token (IsCommit doc token) mid s.0 token_stands s.1 in
      let still_stands : last_token doc s.0 ≡ token = ap (last_token doc) c.2 ∙ still_one mid c.0 (subst IsStill (sym c.1.2) (λ now. refl)) ∙ token_stands in
      let r = made_under token (IsRelease doc token) s.0 last still_stands s.2 in
      let committed : s.0 ≡ left ++ map by (acquired doc left ∷ t.loading ++ Committed doc token c.1.0 c.1.1 ∷ []) =
      c.2 ∙ ap (λ (a : Act). mid ++ by a ∷ []) c.1.2 ∙ ap (λ (m : List Entry). m ++ by (Committed doc token c.1.0 c.1.1) ∷ []) at
      ∙ behind (acquired doc left ∷ t.loading) [] (Committed doc token c.1.0 c.1.1 ∷ []) left in
      record {
        token = token;
        ready = true;
        loading = t.loading;
        token_is = t.token_is;
        caches = t.caches;
        ticket = c.1.0;
        outcome = c.1.1;
        last_is = r.2 ∙ ap (λ (a : Act). s.0 ++ by a ∷ []) r.1 ∙ ap (λ (m : List Entry). m ++ by (Released doc token) ∷ []) committed
            ∙ behind (acquired doc left ∷ t.loading) (Committed doc token c.1.0 c.1.1 ∷ []) (Released doc token ∷ []) left;
      }
  settled false token made left mid last t mid_is s =
      let refused : List Act = Committed doc token t.ticket (Refused StoreFault) ∷ [] in
      let still : AreStill (t.loading ++ refused) = both_still t.loading refused (loading_still (cached doc left) false (Some token) t.loading t.caches) ((λ now. refl), tt) in
      let at : mid ≡ left ++ map by (acquired doc left ∷ t.loading ++ refused) = mid_is ∙ ap (λ (m : List Entry). left ++ m) t.made_is in
      let token_stands : last_token doc mid ≡ token = ap (last_token doc) at ∙ stands (t.loading ++ refused) left still ∙ sym t.token_is in
      let r = made_under token (IsRelease doc token) mid last token_stands s in
      record {
        token = token;
        ready = false;
        loading = t.loading;
        token_is = t.token_is;
        caches = t.caches;
        ticket = t.ticket;
        outcome = Refused StoreFault;
        last_is = r.2 ∙ ap (λ (a : Act). mid ++ by a ∷ []) r.1 ∙ ap (λ (m : List Entry). m ++ by (Released doc token) ∷ []) at
            ∙ behind (acquired doc left ∷ t.loading) refused (Released doc token ∷ []) left;
      }

  pub whole : (left last : List Entry) → DrainsOne by Alone doc left last → IsWhole by doc left last
  whole left last d =
      let t = alone_turn (TakesUp by doc d.0 d.1) left d.2 d.3 in
      settled d.1 d.0 t.0 left d.2 last t.1 t.2 d.4
