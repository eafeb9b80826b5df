-- An exchange keeps the rule: won, it takes the value out, and lost, it finds one word.
use Rattle.std.proofs.Common.{◌≡◌, ◌≢◌, ℕ, ◌+◌, ◌*◌, ◌%◌, List, [], ◌∷◌, ◌++◌, length, set, All, Bool, true, Option, Some, refl, sym, ap, ◌∙◌, subst, inr, ⊎_elim, arith, get_or, eqb, eq-eqb, ne_eqb, append-nil}
use mathlib.Core.Option.{none}
use mathlib.Core.Logic.{dite}
use native.Mathlib.Decide.{ℕ_discrete}
use prog.Atomic.{either}
use lib.ListN.{get_elem?}
use Rattle.std.specs.Prelude.{MatchBool}
use Rattle.atomic_table.specs.Table.{State, Me, Act, Allows, Valid, keeps, takes, stepped, carried_after}
use Rattle.journal_entries.specs.declared.act.Entry.{Entry}
use Rattle.board.specs.declared.view.Start.{Start}
use Rattle.board.specs.declared.view.View.{View}
use Rattle.board.specs.Views.{SawAll, At, made_by, saw, took}
use Rattle.board.specs.Rule.{Fits, IsHome, IsOut, IsRuled, Wins, Tries}
use Rattle.board.proofs.Views.{each_set, apart_set, unjoined_set, tally_set, off, set_there, IsBadge}
use Rattle.board.proofs.Looking.{ruled_saw}

module _ {B : Type 0} (journal : B → List Entry) (drivers : B → ℕ) (start : B → Start) where
  first_word : (words : List ℕ) (x : ℕ) → words ≡ x ∷ [] → get_or words 0 0 ≡ x
  first_word words x e = ap (λ (ws : List ℕ). get_or ws 0 0) e

  fits_took : (log : List Entry) (count d : ℕ) (t : Start) (v : View) (seen : List Entry) → seen ≡ log → Fits log count d t v → Fits log count d t (took v seen)
  fits_took log count d t v seen e f =
      record { seen_is = ([], e'); made_is = f.made_is; number_is = f.number_is; drivers_is = f.drivers_is; start_is = f.start_is; count_is = f.count_is; own_is = λ n. ap (made_by v.number) e ∙ f.made_is; joined_is = f.joined_is; joined_below = f.joined_below; joined_differ = f.joined_differ }
    where
      e' : log ≡ seen ++ []
      e' = sym e ∙ sym (append-nil seen)

  -- the state after the turn was taken
  abbrev taken : State (Option B) View → ℕ → View → B → ℕ → State (Option B) View
  taken s id v value word = record { words = set s.words 0 word; homes = set s.homes 0 none; views = set s.views id (took v (journal value)) }

  wins_ruled : (s : State (Option B) View) (id : ℕ) (v : View) (old : ℕ) → At s.views id v → v.live ≡ true → (h : IsRuled journal drivers start s) (home : IsHome journal drivers start h.log h.d h.t s) → get_or s.words 0 0 ≡ old
      → IsRuled journal drivers start (taken s id v home.value (old + 1))
  wins_ruled s id v old at live h home found =
      let w = took v (journal home.value) in
      let badge : IsBadge v w = record { live_is = refl; number_is = refl; joined_is = refl } in
      let old_is : old ≡ 2 * length h.log = sym found ∙ first_word s.words _ home.words_is in
      record {
        log = h.log;
        count = h.count;
        d = h.d;
        t = h.t;
        turn = inr (record {
          seat = id;
          view = w;
          words_is = ap (λ (ws : List ℕ). set ws 0 (old + 1)) home.words_is ∙ ap (λ (k : ℕ). (k + 1) ∷ []) old_is;
          homes_is = ap (λ hs. set hs 0 none) home.homes_is;
          here = set_there s.views id v w at;
          holds_is = refl;
          live_is = live;
          one_holds = each_set (λ k u. u.holds ≡ true → (k ≡ id) × (u.seen ≡ h.log)) s.views id w (λ _. (refl, home.journal_is)) (λ j u _ e holds. absurd (off (sym (home.none_holds j u e) ∙ holds)));
        });
        fits = each_set (λ k u. u.live ≡ true → Fits h.log h.count h.d h.t u) s.views id w (λ l. fits_took _ _ _ _ v _ home.journal_is (h.fits id v at l)) (λ j u _ e. h.fits j u e);
        apart = apart_set s.views id v w at badge h.apart;
        unjoined = unjoined_set s.views id v w at badge h.unjoined;
        given = h.given;
        tally = tally_set s.views id v w h.count at badge h.tally;
      }

  wins_told : (s : State (Option B) View) (id : ℕ) (v : View) → At s.views id v → v.live ≡ true → (h : IsRuled journal drivers start s) (home : IsHome journal drivers start h.log h.d h.t s) → Wins journal drivers start v (took v (journal home.value)) home.value
  wins_told s id v at live h home =
      let f = h.fits id v at live in
      let P : List Entry → Type 0 = λ log. Rattle.board.specs.Views.Begins v.seen log in record {
        view_is = refl;
        seen_is = subst P (sym home.journal_is) f.seen_is;
        made_is = ap (made_by v.number) home.journal_is ∙ f.made_is;
        drivers_is = home.drivers_is ∙ sym f.drivers_is;
        start_is = home.start_is ∙ sym f.start_is;
        others = λ n. (subst P (sym home.journal_is) f.seen_is, ap (made_by v.number) home.journal_is ∙ f.made_is ∙ sym (f.own_is n));
        joined_is = λ zero_is. subst (λ (log : List Entry). All (SawAll log) v.joined) (sym home.journal_is) (f.joined_is zero_is);
        joined_differ = f.joined_differ;
      }

  -- what an exchange owes, by its test
  abbrev Owes : State (Option B) View → ℕ → View → ℕ → Bool → Type 0
  Owes s id v old hit =
      (w : View) × (a : Act (Option B)) × Valid s.homes [] a × IsRuled journal drivers start (stepped s 0 (either hit (old + 1) (get_or s.words 0 0)) id [] w a)
      × MatchBool hit ((value : B) × Wins journal drivers start v w value × (carried_after [] a ≡ (0, Some value) ∷ [])) (let after : Me (Option B) View = (w, carried_after [] a) in after ≡ (saw v (get_or s.words 0 0), []))

  hits : (s : State (Option B) View) (id : ℕ) (v : View) (old : ℕ) → At s.views id v → v.live ≡ true → old % 2 ≡ 0 → IsRuled journal drivers start s → get_or s.words 0 0 ≡ old → Owes s id v old true
  hits s id v old at live even h found =
      ⊎_elim
      (λ (home : IsHome journal drivers start h.log h.d h.t s). (
        took v (journal home.value),
        takes 0 (Some home.value),
        ap (λ hs. get_elem? hs 0) home.homes_is,
        wins_ruled s id v old at live h home found,
        (home.value, wins_told s id v at live h home, refl),
      ))
      (λ (out : IsOut journal drivers start h.log s). absurd (let e = sym found ∙ first_word s.words _ out.words_is in omega (arith, e, even)))
      h.turn

  pub tries : (slots id old : ℕ) (v : View) → v.live ≡ true → old % 2 ≡ 0
      → Allows (IsRuled journal drivers start) slots id (v, []) 0 (λ n. either (eqb n old) (old + 1) n) (Tries journal drivers start old (v, []))
  tries slots id old v live even s h wide at small =
      let n = get_or s.words 0 0 in
      dite (ℕ_discrete n old)
      (λ e. subst (Owes s id v old) (sym (eq-eqb n old e)) (hits s id v old at live even h e))
      (λ other. subst (Owes s id v old) (sym (ne_eqb n old other)) (saw v n, keeps, tt, ruled_saw journal drivers start s id v n at h, refl))

  pub tries_as : (slots id old : ℕ) (m : Me (Option B) View) → m.0.live ≡ true → m.1 ≡ [] → old % 2 ≡ 0
      → Allows (IsRuled journal drivers start) slots id m 0 (λ n. either (eqb n old) (old + 1) n) (Tries journal drivers start old m)
  tries_as slots id old m live empty even =
      subst (λ (c : List (ℕ × Option B)). Allows (IsRuled journal drivers start) slots id (m.0, c) 0 (λ n. either (eqb n old) (old + 1) n) (Tries journal drivers start old (m.0, c))) (sym empty) (tries slots id old m.0 live even)

  -- what a won exchange told, and what a lost one
  pub won : (old found : ℕ) (m n : Me (Option B) View) → found ≡ old → Tries journal drivers start old m found n → (value : B) × Wins journal drivers start m.0 n.0 value × (n.1 ≡ (0, Some value) ∷ [])
  won old found m n e told = subst (λ b. MatchBool b ((value : B) × Wins journal drivers start m.0 n.0 value × (n.1 ≡ (0, Some value) ∷ [])) (n ≡ (saw m.0 found, m.1))) (eq-eqb found old e) told

  pub lost : (old found : ℕ) (m n : Me (Option B) View) → found ≢ old → Tries journal drivers start old m found n → n ≡ (saw m.0 found, m.1)
  lost old found m n e told = subst (λ b. MatchBool b ((value : B) × Wins journal drivers start m.0 n.0 value × (n.1 ≡ (0, Some value) ∷ [])) (n ≡ (saw m.0 found, m.1))) (ne_eqb found old e) told
