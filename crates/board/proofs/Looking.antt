-- A load keeps the rule, and so does a lost exchange.
use Rattle.std.proofs.Common.{◌≡◌, ◌⊎◌, ℕ, ◌%◌, List, [], ◌∷◌, set, true, false, Option, refl, sym, ◌∙◌, subst, inl, inr, ⊎_elim, arith, get_or}
use Rattle.atomic_table.specs.Table.{State, Me, Allows, keeps}
use Rattle.journal_entries.specs.declared.act.Entry.{Entry}
use Rattle.board.specs.declared.view.Start.{Start}
use Rattle.board.specs.declared.view.View.{View}
use Rattle.board.specs.Views.{At, saw}
use Rattle.board.specs.Rule.{Fits, IsHome, IsOut, IsRuled, Looks}
use Rattle.board.proofs.Views.{each_set, apart_set, unjoined_set, tally_set, off, still}

module _ {B : Type 0} (journal : B → List Entry) (drivers : B → ℕ) (start : B → Start) where
  pub fits_saw : (log : List Entry) (count d : ℕ) (t : Start) (v : View) (n : ℕ) → Fits log count d t v → Fits log count d t (saw v n)
  fits_saw log count d t v n f =
      record { seen_is = f.seen_is; made_is = f.made_is; number_is = f.number_is; drivers_is = f.drivers_is; start_is = f.start_is; count_is = f.count_is; own_is = f.own_is; joined_is = f.joined_is; joined_below = f.joined_below; joined_differ = f.joined_differ }

  -- the state after a view found one more word
  abbrev pub after_look : State (Option B) View → ℕ → View → ℕ → State (Option B) View
  after_look s id v n = record { words = set s.words 0 (get_or s.words 0 0); homes = s.homes; views = set s.views id (saw v n) }

  pub one_word : (words : List ℕ) (x : ℕ) → words ≡ x ∷ [] → set words 0 (get_or words 0 0) ≡ x ∷ []
  one_word words x e = subst (λ (ws : List ℕ). set ws 0 (get_or ws 0 0) ≡ x ∷ []) (sym e) refl

  pub turn_saw : (s : State (Option B) View) (id : ℕ) (v : View) (n d : ℕ) (t : Start) (log : List Entry) → At s.views id v
      → IsHome journal drivers start log d t s ⊎ IsOut journal drivers start log s
      → IsHome journal drivers start log d t (after_look s id v n) ⊎ IsOut journal drivers start log (after_look s id v n)
  turn_saw s id v n d t log at turn =
      ⊎_elim
      (λ (h : IsHome journal drivers start log d t s). inl (record {
        value = h.value;
        words_is = one_word s.words _ h.words_is;
        homes_is = h.homes_is;
        journal_is = h.journal_is;
        drivers_is = h.drivers_is;
        start_is = h.start_is;
        none_holds = each_set (λ k u. u.holds ≡ false) s.views id (saw v n) (h.none_holds id v at) (λ j u _ e. h.none_holds j u e);
      }))
      (λ (h : IsOut journal drivers start log s). inr (let here = each_set (λ k u. u.holds ≡ true → (k ≡ h.seat) × (u.seen ≡ log)) s.views id (saw v n) (h.one_holds id v at) (λ j u _ e. h.one_holds j u e) in
      let mine = still s.views id v (saw v n) at refl refl h.seat h.view h.here in record {
        seat = h.seat;
        view = mine.0;
        words_is = one_word s.words _ h.words_is;
        homes_is = h.homes_is;
        here = mine.1;
        holds_is = mine.2 ∙ h.holds_is;
        live_is = mine.3 ∙ h.live_is;
        one_holds = here;
      }
      ))
      turn

  -- a seat that holds the turn finds an odd word
  pub odd_turn : (s : State (Option B) View) (id : ℕ) (v : View) (d : ℕ) (t : Start) (log : List Entry) → At s.views id v
      → IsHome journal drivers start log d t s ⊎ IsOut journal drivers start log s → v.holds ≡ true → get_or s.words 0 0 % 2 ≡ 1
  odd_turn s id v d t log at turn holds =
      ⊎_elim (λ (h : IsHome journal drivers start log d t s). absurd (off (sym (h.none_holds id v at) ∙ holds)))
      (λ (h : IsOut journal drivers start log s). subst (λ (ws : List ℕ). get_or ws 0 0 % 2 ≡ 1) (sym h.words_is) (omega arith)) turn

  -- the rule after a view found one more word
  pub ruled_saw : (s : State (Option B) View) (id : ℕ) (v : View) (n : ℕ) → At s.views id v → IsRuled journal drivers start s → IsRuled journal drivers start (after_look s id v n)
  ruled_saw s id v n at h = record {
    log = h.log;
    count = h.count;
    d = h.d;
    t = h.t;
    turn = turn_saw s id v n h.d h.t h.log at h.turn;
    fits = each_set (λ k u. u.live ≡ true → Fits h.log h.count h.d h.t u) s.views id (saw v n) (λ l. fits_saw _ _ _ _ v n (h.fits id v at l)) (λ j u _ e. h.fits j u e);
    apart = apart_set s.views id v (saw v n) at (record { live_is = refl; number_is = refl; joined_is = refl }) h.apart;
    unjoined = unjoined_set s.views id v (saw v n) at (record { live_is = refl; number_is = refl; joined_is = refl }) h.unjoined;
    given = h.given;
    tally = tally_set s.views id v (saw v n) h.count at (record { live_is = refl; number_is = refl; joined_is = refl }) h.tally;
  }

  pub looks : (slots id : ℕ) (m : Me (Option B) View) → Allows (IsRuled journal drivers start) slots id m 0 (λ n. n) (Looks m)
  looks slots id m s h wide at small = let n = get_or s.words 0 0 in (saw m.0 n, keeps, tt, ruled_saw s id m.0 n at h, (refl, odd_turn s id m.0 h.d h.t h.log at h.turn))
