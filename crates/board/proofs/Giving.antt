-- The swap that gives the turn back keeps the rule.
use Rattle.std.proofs.Common.{◌≡◌, ◌≢◌, ℕ, ◌*◌, ◌<◌, List, [], ◌∷◌, ◌++◌, length, set, All, true, false, Option, Some, refl, sym, ap, ◌∙◌, subst, inl, ⊎_elim, arith, append-nil}
use mathlib.Core.Option.{some}
use Rattle.std.specs.Option.{unwrap_or}
use Rattle.std.proofs.lemmas.List.Elements.{All-append}
use Rattle.atomic_table.specs.Table.{State, Me, Allows, gives}
use Rattle.journal_entries.specs.declared.act.Entry.{Entry}
use Rattle.board.specs.declared.view.Start.{Start}
use Rattle.board.specs.declared.view.View.{View}
use Rattle.board.specs.Views.{SawAll, At, gave}
use Rattle.board.specs.Rule.{Fits, IsHome, IsOut, IsRuled, Gives}
use Rattle.board.specs.Turns.{Extends}
use Rattle.board.proofs.Views.{each_set, apart_set, unjoined_set, tally_set, off, not_true, IsBadge}
use Rattle.board.proofs.Entries.{made_by-others, begins_longer, all_map, all_both}

module _ {B : Type 0} (journal : B → List Entry) (drivers : B → ℕ) (start : B → Start) where
  abbrev slot_value : List (ℕ × Option B) → B → B
  slot_value [] d = d
  slot_value (x ∷ xs) d = unwrap_or x.1 d

  -- the state after the value was given back
  abbrev given : State (Option B) View → ℕ → View → B → State (Option B) View
  given s id v value = record { words = set s.words 0 (2 * length (journal value)); homes = set s.homes 0 (some (Some value)); views = set s.views id (gave v (journal value)) }

  fits_other : (log own : List Entry) (count d : ℕ) (t : Start) (n : ℕ) (u : View) → u.number ≢ n → All (λ (e : Entry). e.seat ≡ n) own → (u.number ≡ 0 → All (λ (x : ℕ × List Entry). x.0 ≢ n) u.joined) → Fits log count d t u → Fits (log ++ own) count d t u
  fits_other log own count d t n u apart all joined f = record {
    seen_is = begins_longer _ _ _ f.seen_is;
    made_is = made_by-others u.number n log own apart all ∙ f.made_is;
    number_is = f.number_is;
    drivers_is = f.drivers_is;
    start_is = f.start_is;
    count_is = f.count_is;
    own_is = f.own_is;
    joined_is = λ z. all_both (λ (x : ℕ × List Entry). x.0 ≢ n) (SawAll log) (SawAll (log ++ own)) u.joined (λ x a b. (begins_longer _ _ _ b.0, made_by-others x.0 n log own a all ∙ b.1)) (joined z) (f.joined_is z);
    joined_below = f.joined_below;
    joined_differ = f.joined_differ;
  }

  fits_own : (log own : List Entry) (count d : ℕ) (t : Start) (v : View) (whole : List Entry) → whole ≡ log ++ own → All (λ (e : Entry). e.seat ≡ v.number) own → (v.number ≡ 0 → All (λ (x : ℕ × List Entry). x.0 ≢ v.number) v.joined) → Fits log count d t v → Fits whole count d t (gave v whole)
  fits_own log own count d t v whole is all joined f = record {
    seen_is = ([], sym (append-nil whole));
    made_is = refl;
    number_is = f.number_is;
    drivers_is = f.drivers_is;
    start_is = f.start_is;
    count_is = f.count_is;
    own_is = λ _. refl;
    joined_is = λ z. subst (λ (l : List Entry). All (SawAll l) v.joined) (sym is)
        (all_both (λ (x : ℕ × List Entry). x.0 ≢ v.number) (SawAll log) (SawAll (log ++ own)) v.joined (λ x a b. (begins_longer _ _ _ b.0, made_by-others x.0 v.number log own a all ∙ b.1)) (joined z) (f.joined_is z));
    joined_below = f.joined_below;
    joined_differ = f.joined_differ;
  }

  gives_ruled : (s : State (Option B) View) (id : ℕ) (v : View) (value : B) → At s.views id v → v.live ≡ true → v.holds ≡ true → Extends journal v value → drivers value ≡ v.drivers → start value ≡ v.start
      → (h : IsRuled journal drivers start s) → IsOut journal drivers start h.log s → IsRuled journal drivers start (given s id v value)
  gives_ruled s id v value at live holds more same_d same_t h out =
      let whole = journal value in
      let own = more.0 in
      let f = h.fits id v at live in
      let mine = out.one_holds id v at holds in
      let is : whole ≡ h.log ++ own = more.1 ∙ ap (λ l. l ++ own) mine.1 in
      let w = gave v whole in
      let badge : IsBadge v w = record { live_is = refl; number_is = refl; joined_is = refl } in
      record {
        log = whole;
        count = h.count;
        d = h.d;
        t = h.t;
        turn = inl (record {
          value = value;
          words_is = ap (λ (ws : List ℕ). set ws 0 (2 * length whole)) out.words_is;
          homes_is = ap (λ hs. set hs 0 (some (Some value))) out.homes_is;
          journal_is = refl;
          drivers_is = same_d ∙ f.drivers_is;
          start_is = same_t ∙ f.start_is;
          none_holds = each_set (λ k u. u.holds ≡ false) s.views id w refl (λ j u apart e. not_true u.holds (λ other. apart ((out.one_holds j u e other).0 ∙ sym mine.0)));
        });
        fits = each_set (λ k u. u.live ≡ true → Fits whole h.count h.d h.t u) s.views id w
            (λ l. fits_own h.log own h.count h.d h.t v whole is more.2 (h.unjoined id id v v at at live live) f)
            (λ j u apart e l. subst (λ (log : List Entry). Fits log h.count h.d h.t u) (sym is)
            (fits_other h.log own h.count h.d h.t v.number u (λ same. apart (h.apart j id u v e at l live same)) more.2 (h.unjoined j id u v e at l live) (h.fits j u e l)));
        apart = apart_set s.views id v w at badge h.apart;
        unjoined = unjoined_set s.views id v w at badge h.unjoined;
        given = subst (λ (log : List Entry). All (λ (e : Entry). e.seat < h.count) log) (sym is)
            (All-append (λ (e : Entry). e.seat < h.count) h.log own h.given (all_map (λ (e : Entry). e.seat ≡ v.number) (λ (e : Entry). e.seat < h.count) own (λ e same. let below = f.number_is in omega (arith, same, below)) more.2));
        tally = tally_set s.views id v w h.count at badge h.tally;
      }

  pub gives_back : (slots id word : ℕ) (m : Me (Option B) View) (value : B) → m.1 ≡ (0, Some value) ∷ [] → m.0.live ≡ true → m.0.holds ≡ true → word ≡ 2 * length (journal value)
      → Extends journal m.0 value → drivers value ≡ m.0.drivers → start value ≡ m.0.start
      → Allows (IsRuled journal drivers start) slots id m 0 (λ _. word) (λ _. Gives journal m)
  gives_back slots id word m value carried live holds word_is more same_d same_t =
      let P : List (ℕ × Option B) × ℕ → Type 0 = λ x. Allows (IsRuled journal drivers start) slots id (m.0, x.0) 0 (λ _. x.1) (λ _. Gives journal (m.0, x.0)) in
      subst P (λ i. (sym carried i, sym word_is i))
      (λ s h wide at small. (
        gave m.0 (journal value),
        gives,
        tt,
        ⊎_elim (λ (home : IsHome journal drivers start h.log h.d h.t s). absurd (off (sym (home.none_holds id m.0 at) ∙ holds)))
            (λ (out : IsOut journal drivers start h.log s). gives_ruled s id m.0 value at live holds more same_d same_t h out) h.turn,
        λ other e. ap (λ (b : B). let after : Me (Option B) View = (gave m.0 (journal b), []) in after) (ap (λ l. slot_value l value) e),
      ))
