-- What a turn of a seat tells of the entries of others.
use Rattle.std.proofs.Common.{◌≡◌, ◌≢◌, ℕ, ◌+◌, suc, List, [], ◌∷◌, ◌++◌, length, Bool, true, false, not, ◌&&◌, refl, sym, ap, ◌∙◌, arith, length-append}
use Rattle.std.specs.Prelude.{filter, if◌then◌else◌}
use Rattle.std.specs.List.{list_all}
use Rattle.std.proofs.lemmas.List.Elements.{filter-append}
use Rattle.journal_entries.specs.declared.act.Entry.{Entry}
use Rattle.board.specs.declared.view.Start.{Start}
use Rattle.board.specs.declared.view.View.{View}
use Rattle.board.specs.Turns.{TakesLate}
use Rattle.board.specs.Views.{Begins, made_by}
use Rattle.run_rules.specs.Threads.{is_by}
use Rattle.turn_rules.specs.Turns.{Among}

-- none of these is one's own
none_own : (own : Entry → Bool) (es : List Entry) → filter own es ≡ [] → list_all (λ e. not (own e)) es ≡ true
none_own own [] is = refl
none_own own (e ∷ es) is = go (own e) is (none_own own es)
  where
    go : (o : Bool) → (if o then e ∷ filter own es else filter own es) ≡ [] → (filter own es ≡ [] → list_all (λ e. not (own e)) es ≡ true) → (not o && list_all (λ e. not (own e)) es) ≡ true
    go true bad rest = let n : suc (length (filter own es)) ≡ 0 = ap length bad in absurd (omega (arith, n))
    go false is rest = rest is

nothing : (xs : List Entry) → length xs ≡ 0 → xs ≡ []
nothing [] n = refl
nothing (x ∷ xs) n = absurd (omega (arith, n))

-- where the whole has no further entry of a seat, what it has behind is of others
sees_all : (seat : ℕ) (seen journal made : List Entry) → Begins seen journal → made_by seat seen ≡ made → made_by seat journal ≡ made → Among (is_by seat) seen journal
sees_all seat seen journal made begins here all =
    let more = begins.0 in
    let both : filter (is_by seat) seen ++ filter (is_by seat) more ≡ filter (is_by seat) seen = sym (filter-append (is_by seat) seen more) ∙ ap (filter (is_by seat)) (sym begins.1) ∙ all ∙ sym here in
    let count : length (filter (is_by seat) seen) + length (filter (is_by seat) more) ≡ length (filter (is_by seat) seen) = sym (length-append (filter (is_by seat) seen) (filter (is_by seat) more)) ∙ ap length both in
    (more, begins.1, none_own (is_by seat) more (nothing (filter (is_by seat) more) (omega (arith, count))))

module _ {B : Type 0} (journal : B → List Entry) (drivers : B → ℕ) (start : B → Start) (v w : View) (value : B) where
  -- a seat that had seen all that it made
  pub wins_among : made_by v.number v.seen ≡ v.made → TakesLate journal drivers start v w value → Among (is_by v.number) v.seen (journal value)
  wins_among own t = sees_all v.number v.seen (journal value) v.made t.1.seen_is own t.1.made_is

  -- a seat other than the first
  pub sees_others : v.number ≢ 0 → TakesLate journal drivers start v w value → Among (is_by v.number) v.seen (journal value)
  sees_others other t = let s = t.1.others other in sees_all v.number v.seen (journal value) (made_by v.number v.seen) s.0 refl s.1
