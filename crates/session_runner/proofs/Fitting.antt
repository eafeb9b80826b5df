-- The lines of a script that was read fit a journal.
use Rattle.std.proofs.Common.{◌≡◌, ℕ, ◌+◌, ◌<◌, ◌≤◌, List, [], ◌∷◌, ◌++◌, Bool, true, false, true≢false, not, ◌||◌, refl, sym, ap, ◌∙◌, subst, arith, length, append-nil, append_assoc}
use Rattle.std.specs.Prelude.{Option, Some, None, Result, Ok, Err, IfOk, ◌&&◌, nat_lt, map, option_map, position, sum_by, if◌then◌else◌}
use Rattle.std.specs.List.{list_any, list_all}
use Rattle.std.proofs.lemmas.Bool.{ltb-true, not-true, and_parts, or_parts}
use Rattle.std.proofs.lemmas.List.{length-map}
use Rattle.project_histories.proofs.Lists.{none_passes}
use Rattle.ot_op.specs.declared.comp.Comp.{Comp}
use Rattle.ot_op.specs.declared.fault.FormFault.{FormFault}
use Rattle.journal_rules.specs.Documents.{Making, is_named}
use Rattle.journal_rules.specs.Legal.{clock_end}
use Rattle.expiring_lock.specs.declared.lock.TheConstants.{LOCK_LIFE}
use Rattle.session_lines.specs.Names.{same_name}
use Rattle.session_lines.specs.Script.{documents_of, makes_document, may_make, may_join, may_follow}
use Rattle.session_lines.specs.Standing.{AreSlow, AreStanding, IsWithin, moved_by}
use Rattle.session_lines.specs.declared.line.Line.{Line}
use Rattle.session_lines.specs.declared.line.Line.TheVariants.{Doc, Raw, Ins, Del}
use Rattle.session_runner.specs.Ending.{first_unbuilt}
use Rattle.script_driver.specs.Fitting.{AreBuilt, AreFit, IsFit, is_built, makings_by}

abbrev all_makings : List Making → List Line → List Making
all_makings ms [] = ms
all_makings ms (l ∷ ls) = all_makings (makings_by ms l) ls

abbrev names_of : List Making → List (List ℕ)
names_of ms = map (λ m. m.name) ms

names_append : (ms ns : List Making) → names_of (ms ++ ns) ≡ names_of ms ++ names_of ns
names_append [] ns = refl
names_append (m ∷ ms) ns = ap (λ l. m.name ∷ l) (names_append ms ns)

names_after : (ms : List Making) (ls : List Line) → names_of (all_makings ms ls) ≡ names_of ms ++ documents_of ls
names_after ms [] = sym (append-nil (names_of ms))
names_after ms (Doc doc project text v ∷ ls) =
    let m : Making = record { name = doc; project = project; first = text; base = v } in
    names_after (ms ++ m ∷ []) ls ∙ ap (λ l. l ++ documents_of ls) (names_append ms (m ∷ [])) ∙ append_assoc (names_of ms) (doc ∷ []) (documents_of ls)
names_after ms (_ ∷ ls) = names_after ms ls

any_named : (doc : List ℕ) (ms : List Making) → list_any (λ m. is_named doc m) ms ≡ list_any (same_name doc) (names_of ms)
any_named doc [] = refl
any_named doc (m ∷ ms) = ap (λ b. same_name doc m.name || b) (any_named doc ms)

fewer_documents : (ls : List Line) → length (documents_of ls) ≤ length ls
fewer_documents [] = omega arith
fewer_documents (Doc doc project text v ∷ ls) = let h = fewer_documents ls in omega (arith, h)
fewer_documents (_ ∷ ls) = let h = fewer_documents ls in omega (arith, h)

is_fit : (ls : List Line) (l : Line) → IsWithin l → may_follow ls l ≡ true → IsFit (all_makings [] ls) l
is_fit ls (Doc doc project text v) within may =
    let made = and_parts (may_make ls (Some doc)) (may_join ls None) may in
    let first = and_parts (list_all makes_document ls) (nat_lt (length ls) 1000 && not (list_any (same_name doc) (documents_of ls))) made.0 in
    let rest = and_parts (nat_lt (length ls) 1000) (not (list_any (same_name doc) (documents_of ls))) first.1 in
    let names : names_of (all_makings [] ls) ≡ documents_of ls = names_after [] ls in
    let few = ltb-true (length ls) 1000 rest.0 in
    let fewer = fewer_documents ls in
    let long = ap length names in
    let same = length-map (all_makings [] ls) (λ (m : Making). m.name) in (
      any_named doc (all_makings [] ls) ∙ ap (list_any (same_name doc)) names ∙ not-true (list_any (same_name doc) (documents_of ls)) rest.1,
      omega (arith, few, fewer, long, same),
      within.0,
      within.1,
    )
is_fit ls (Raw session doc user source dup track v op) within may = within
is_fit ls (Ins session p text) within may = within
is_fit ls (Del session p n) within may = within
is_fit ls _ within may = tt

makings_push : (ms : List Making) (ls : List Line) (l : Line) → all_makings ms (ls ++ l ∷ []) ≡ makings_by (all_makings ms ls) l
makings_push ms [] l = refl
makings_push ms (x ∷ xs) l = makings_push (makings_by ms x) xs l

fit_behind : (earlier ls : List Line) → AreStanding earlier ls → AreFit (all_makings [] earlier) ls
fit_behind earlier [] standing = tt
fit_behind earlier (l ∷ ls) standing =
    (is_fit earlier l standing.0 standing.1, subst (λ (ms : List Making). AreFit ms ls) (makings_push [] earlier l) (fit_behind (earlier ++ l ∷ []) ls standing.2))

-- what stands in a script fits an empty journal
pub fits : (ls : List Line) → AreStanding [] ls → AreFit [] ls
fits ls standing = fit_behind [] ls standing

-- where none isn't built, all are
all_built : (ls : List Line) → list_any (λ l. not (is_built l)) ls ≡ false → AreBuilt ls
all_built [] none = tt
all_built (l ∷ ls) none =
    let parts = or_parts (not (is_built l)) (list_any (λ l. not (is_built l)) ls) none in
    (built (is_built l) parts.0, all_built ls parts.1)
  where
    built : (b : Bool) → not b ≡ false → b ≡ true
    built true e = refl
    built false e = absurd (true≢false e)

-- where no line is named as unbuilt, all are built
pub none_unbuilt : (ls : List Line) → first_unbuilt ls ≡ None → AreBuilt ls
none_unbuilt ls none = by (position (λ l. not (is_built l)) ls) refl none
  where
    by : (o : Option ℕ) → position (λ l. not (is_built l)) ls ≡ o → option_map (λ k. k + 1) o ≡ None → AreBuilt ls
    by None is e = all_built ls (none_passes (λ l. not (is_built l)) ls is)
    by (Some k) is e = absurd (cc)

-- ---- the clock
-- of a longer text, lines are as slow
pub slower : (n m : ℕ) (ls : List Line) → n ≤ m → AreSlow n ls → AreSlow m ls
slower n m ls le slow = omega (arith, le, slow)

-- the ticks of a script leave the clock below its end, and room for the tick of the end
pub ticks_low : (ls : List Line) → AreSlow 16777216 ls → (sum_by moved_by ls + LOCK_LIFE ≤ clock_end)
ticks_low ls slow = omega (arith, slow)
