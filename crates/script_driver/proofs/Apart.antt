-- Entries that make no document, leave the clock, hand nothing out, let nobody join or close, and commit under no early token.
use Rattle.std.proofs.Common.{◌≡◌, ◌≢◌, ℕ, zero, suc, ◌+◌, ◌≤◌, ◌<◌, List, [], ◌∷◌, ◌++◌, length, Bool, true, false, true≢false, ◌||◌, refl, sym, ap, ◌∙◌, subst, inl, inr, arith, append_assoc, append-nil, length-append, ne_eqb, All}
use Rattle.std.specs.Prelude.{Option, Some, None, ◌==◌, nat_le, nat_lt, if◌then◌else◌, map}
use Rattle.std.proofs.lemmas.Bool.{leb-true}
use Rattle.std.proofs.lemmas.Bool.Decides.{nat_tests}
use Rattle.std.proofs.lemmas.List.Elements.{All-append, All-nil, All-cons, All-weaker}
use Rattle.journal_entries.specs.declared.act.Act.{Act}
use Rattle.journal_entries.specs.declared.act.Act.TheVariants.{Made, Ticked, Joined as JoinedAct, Edited, Sent, Got, Left as LeftAct, Acquired, Loaded, LoadFailed, LoadDiffers, Committed, Released, Unloaded, Handed, Closed}
use Rattle.journal_entries.specs.declared.act.Entry.{Entry}
use Rattle.journal_rules.specs.Documents.{is_in, makings, making_of}
use Rattle.journal_rules.specs.Keeping.{cached, cached_by}
use Rattle.journal_rules.specs.Legal.{closed, closed_by}
use Rattle.journal_rules.specs.Locks.{acquirings, acquiring_of, clock, next_token, ticked, used_by}
use Rattle.journal_rules.proofs.Pushing.{acquirings-push, closed-push, clock-push, makings-push}
use Rattle.journal_rules.specs.Client.{client}
use Rattle.script_driver.specs.Clients.{StayAll, is_of_none}
use Rattle.script_driver.proofs.Clients.{one_stays}
use Rattle.ending_rules.proofs.Apart.{all_first, all_later}
use Rattle.turn_rules.specs.Draining.{Caches, DrainsOne, IsLoad, IsWhole}
use Rattle.turn_rules.specs.Locking.{acquired}
use Rattle.turn_rules.specs.Turns.{Alone, entry_by}
use Rattle.run_rules.proofs.Whole.{whole}
use Rattle.script_driver.specs.Apart.{GoesApart, IsApart, is_apart}
use Rattle.dispatcher.specs.Draining.{DrainsMany}

-- ---- what an act that is apart leaves
pub makes_none : (from : ℕ) (a : Act) → is_apart from a ≡ true → making_of a ≡ []
makes_none from (Made doc name project first base) e = absurd (true≢false (sym e))
makes_none from _ e = refl

pub ticks_not : (from : ℕ) (a : Act) (now : ℕ) → is_apart from a ≡ true → ticked a now ≡ now
ticks_not from (Ticked ms) now e = absurd (true≢false (sym e))
ticks_not from _ now e = refl

pub of_none : (from : ℕ) (a : Act) → is_apart from a ≡ true → is_of_none a ≡ true
of_none from (JoinedAct session doc user track since source v) e = absurd (true≢false (sym e))
of_none from (Edited session comp) e = absurd (true≢false (sym e))
of_none from (Sent u) e = e
of_none from (Got session brief) e = absurd (true≢false (sym e))
of_none from (LeftAct session) e = absurd (true≢false (sym e))
of_none from _ e = refl

pub closes_none : (from : ℕ) (a : Act) → is_apart from a ≡ true → closed_by a ≡ []
closes_none from (Closed driver) e = absurd (true≢false (sym e))
closes_none from _ e = refl

pub same_if : (b : Bool) → (if b then true else true) ≡ true
same_if true = refl
same_if false = refl

pub keeps_cached : (from d : ℕ) (a : Act) → is_apart from a ≡ true → cached_by d a true ≡ true
keeps_cached from d (Made doc name project first base) e = absurd (true≢false (sym e))
keeps_cached from d (Loaded doc token v) e = same_if (doc == d)
keeps_cached from d (Unloaded doc token) e = absurd (true≢false (sym e))
keeps_cached from d _ e = refl

pub not_this : (token t : ℕ) → token ≢ t → is_in t (token ∷ []) ≡ false
not_this token t apart = ap (λ b. b || false) (ne_eqb token t apart)

uses_none : (from t : ℕ) (a : Act) → t < from → is_apart from a ≡ true → is_in t (used_by a) ≡ false
uses_none from t (Committed doc token ticket outcome) low e =
    let le : from ≤ token = leb-true from token e in not_this token t (λ same. absurd (omega (arith, low, le, same)))
uses_none from t _ low e = refl

-- ---- what stays behind each entry that is apart stays behind all
module _ (from : ℕ) (P : List Entry → Type 0) (step : (j : List Entry) (e : Entry) → IsApart from e → P j → P (j ++ e ∷ [])) where
  along : (es j : List Entry) → All (IsApart from) es → P j → P (j ++ es)
  along [] j all p = subst P (sym (append-nil j)) p
  along (e ∷ es) j all p = subst P (append_assoc j (e ∷ []) es) (along es (j ++ e ∷ []) (all_later (IsApart from) e es all) (step j e (all_first (IsApart from) e es all) p))

  pub stays : (left last : List Entry) → GoesApart from left last → P left → P last
  stays left last g p = subst P (sym g.last_is) (along g.more left g.all p)

module _ (from : ℕ) (left last : List Entry) (g : GoesApart from left last) where
  pub same_makings : makings last ≡ makings left
  same_makings = stays from (λ j. makings j ≡ makings left) (λ j e apart same. makings-push j e ∙ ap (λ ms. makings j ++ ms) (makes_none from e.act apart.apart) ∙ append-nil (makings j) ∙ same) left last g refl

  pub same_clock : clock last ≡ clock left
  same_clock = stays from (λ j. clock j ≡ clock left) (λ j e apart same. clock-push j e ∙ ticks_not from e.act (clock j) apart.apart ∙ same) left last g refl

  pub same_closed : closed last ≡ closed left
  same_closed = stays from (λ j. closed j ≡ closed left) (λ j e apart same. closed-push j e ∙ ap (λ ds. closed j ++ ds) (closes_none from e.act apart.apart) ∙ append-nil (closed j) ∙ same) left last g refl

  pub same_clients : StayAll left last
  same_clients c = stays from (λ j. client c j ≡ client c left) (λ j e apart same. one_stays j e (of_none from e.act apart.apart) c ∙ same) left last g refl

  pub more_tokens : length (acquirings left) ≤ length (acquirings last)
  more_tokens = stays from (λ j. length (acquirings left) ≤ length (acquirings j))
      (λ j e apart le. let l = ap length (acquirings-push j e) in let a = length-append (acquirings j) (acquiring_of e.seat e.act) in omega (arith, le, l, a)) left last g (omega arith)

-- ---- going on
pub none_apart : (from : ℕ) (left last : List Entry) → last ≡ left → GoesApart from left last
none_apart from left last same = record { more = []; last_is = same ∙ sym (append-nil left); all = All-nil (IsApart from) }

pub apart_on : (from : ℕ) (a b c : List Entry) → GoesApart from a b → GoesApart from b c → GoesApart from a c
apart_on from a b c x y = record {
  more = x.more ++ y.more;
  last_is = y.last_is ∙ ap (λ (j : List Entry). j ++ y.more) x.last_is ∙ append_assoc a x.more y.more;
  all = All-append (IsApart from) x.more y.more x.all y.all;
}

later : (from low : ℕ) (a : Act) → low ≤ from → is_apart from a ≡ true → is_apart low a ≡ true
later from low (Made doc name project first base) le e = e
later from low (Ticked ms) le e = e
later from low (JoinedAct session doc user track since source v) le e = e
later from low (Edited session comp) le e = e
later from low (Sent u) le e = e
later from low (Got session brief) le e = e
later from low (LeftAct session) le e = e
later from low (Committed doc token ticket outcome) le e = let is : from ≤ token = leb-true from token e in grind (arith, nat_tests)
later from low (Unloaded doc token) le e = e
later from low (Handed project count) le e = e
later from low (Closed driver) le e = e
later from low _ le e = refl

pub apart_from : (from low : ℕ) (left last : List Entry) → low ≤ from → GoesApart from left last → GoesApart low left last
apart_from from low left last le g = record {
  more = g.more;
  last_is = g.last_is;
  all = All-weaker (IsApart from) (IsApart low) (λ e is. record { apart = later from low e.act le is.apart }) g.more g.all;
}

module _ (seat : ℕ) (line : Option ℕ) where
  abbrev by : Act → Entry
  by = entry_by seat line

  pub one_apart : (from : ℕ) (act : Act) → is_apart from act ≡ true → (acts : List Act) → All (IsApart from) (map by acts) → All (IsApart from) (map by (act ∷ acts))
  one_apart from act e acts all = All-cons (IsApart from) (by act) (map by acts) (record { apart = e }) all

  pub wrote : (from : ℕ) (act : Act) (left last : List Entry) → is_apart from act ≡ true → last ≡ left ++ by act ∷ [] → GoesApart from left last
  wrote from act left last e is = record { more = by act ∷ []; last_is = is; all = one_apart from act e [] (All-nil (IsApart from)) }

  loads_apart : (from doc : ℕ) (token : Option ℕ) (ready : Bool) (act : Act) → IsLoad doc token ready act → is_apart from act ≡ true
  loads_apart from doc token true act l = ap (is_apart from) l.1
  loads_apart from doc token false act (inl l) = ap (is_apart from) l.2
  loads_apart from doc token false act (inr l) = ap (is_apart from) l.2

  then_loads : (from doc : ℕ) (here : Bool) (token : Option ℕ) (ready : Bool) (loading acts : List Act) → Caches here doc token ready loading → All (IsApart from) (map by acts) → All (IsApart from) (map by (loading ++ acts))
  then_loads from doc true token ready loading acts c all = subst (λ (l : List Act). All (IsApart from) (map by (l ++ acts))) (sym c.1) all
  then_loads from doc false token ready loading acts c all =
      subst (λ (l : List Act). All (IsApart from) (map by (l ++ acts))) (sym c.2) (one_apart from c.0 (loads_apart from doc token ready c.0 c.1) acts all)

  pub one_drained : (doc : ℕ) (left last : List Entry) → DrainsOne by Alone doc left last → GoesApart (next_token left) left last
  one_drained doc left last d =
      let w = whole seat line doc left last d in
      let from = next_token left in
      record {
        more = map by (acquired doc left ∷ w.loading ++ Committed doc w.token w.ticket w.outcome ∷ Released doc w.token ∷ []);
        last_is = w.last_is;
        all = one_apart from (acquired doc left) refl (w.loading ++ Committed doc w.token w.ticket w.outcome ∷ Released doc w.token ∷ [])
            (then_loads from doc (cached doc left) (Some w.token) w.ready w.loading (Committed doc w.token w.ticket w.outcome ∷ Released doc w.token ∷ []) w.caches
            (one_apart from (Committed doc w.token w.ticket w.outcome) (high from w.token (sym w.token_is)) (Released doc w.token ∷ []) (one_apart from (Released doc w.token) refl [] (All-nil (IsApart from)))));
      }
    where
      high : (from token : ℕ) → from ≡ token → nat_le from token ≡ true
      high from token same = grind (arith, nat_tests)

  pub many_drained : (doc n : ℕ) (left last : List Entry) → DrainsMany by doc n left last → GoesApart (next_token left) left last
  many_drained doc zero left last d = none_apart (next_token left) left last d
  many_drained doc (suc n) left last d =
      let before = many_drained doc n left d.0 d.1 in
      let more = more_tokens (next_token left) left d.0 before in
      apart_on (next_token left) left d.0 last before (apart_from (next_token d.0) (next_token left) d.0 last (omega (arith, more)) (one_drained doc d.0 last d.2))

pub unused : (from t : ℕ) (e : Entry) → t < from → IsApart from e → is_in t (used_by e.act) ≡ false
unused from t e low apart = uses_none from t e.act low apart.apart
