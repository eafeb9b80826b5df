-- The sessions of a script that was read are numbered: each line is done by one of them. And its lines are slow: the clock goes on by little for each byte.
use Rattle.std.proofs.Common.{◌≡◌, ℕ, ◌+◌, ◌*◌, ◌<◌, ◌≤◌, ◌&&◌, ◌||◌, List, [], ◌∷◌, ◌++◌, Bool, true, false, not, true≢false, refl, sym, ap, ap₂, ◌∙◌, subst, arith, length, sum_by}
use Rattle.std.specs.Prelude.{Option, Some, None, Result, Ok, Err, IfOk, ◌==◌, nat_le, nat_lt, codes, cond, if◌then◌else◌}
use Rattle.std.specs.List.{list_all, list_any, position_or_len}
use Rattle.std.specs.Option.{option_and_then}
use Rattle.std.proofs.lemmas.Bool.{leb-true, and_parts}
use Rattle.std.proofs.lemmas.Bool.Decides.{nat_tests}
use Rattle.std.proofs.lemmas.List.Sums.{sum_by-append}
use Rattle.std.proofs.lemmas.List.{length-append}
use Rattle.std.proofs.lemmas.List.Folds.{list_all-append}
use Rattle.serde_json.specs.Data.{Data}
use Rattle.serde_json.specs.Find.{get, as_str}
use Rattle.json_lines.specs.Lines.{lines_of, onto_first, value_of}
use Rattle.json_lines.specs.Reading.{key_count, number_at, text_at, whole_at}
use Rattle.ot_json.proofs.Given.{IfGiven, given_then, given_with, given_map, given_map_with, given_choice, given_where, whole_given}
use Rattle.session_lines.specs.Command.{command_of}
use Rattle.session_lines.specs.Fields.{name_at, units_at, u32_at, number_or_zero, flag_or_false, sources_or_none}
use Rattle.session_lines.specs.Line.{doc_line, raw_line, action_line, first_text, line_keys, solid}
use Rattle.session_lines.specs.Names.{number_of_name, same_name, with_name}
use Rattle.session_lines.specs.Script.{may_follow, script, session_of, with_line, by_command, or_fault, with_command, with_name_of_command, with_value, next_script, then_lines, with_lines, script_of}
use Rattle.session_lines.specs.declared.command.Action.{Action}
use Rattle.session_lines.specs.declared.command.Action.TheVariants.{Tick as DoTick, Raw as DoRaw, Join as DoJoin, Rejoin as DoRejoin, Leave as DoLeave, Send as DoSend, Resend as DoResend, Recv as DoRecv, Sync as DoSync, Finish as DoFinish, Ins as DoIns, Del as DoDel, Com as DoCom, Drain as DoDrain, Hold as DoHold, Flush as DoFlush, Unload as DoUnload, Hand as DoHand}
use Rattle.session_lines.specs.declared.command.Command.{Command}
use Rattle.session_lines.specs.declared.command.Command.TheVariants.{Doc as DoDoc, BySession}
use Rattle.session_lines.specs.declared.fault.ScriptFault.{ScriptFault}
use Rattle.session_lines.specs.declared.line.Line.{Line}
use Rattle.session_lines.specs.declared.line.Line.TheVariants.{Tick, Ins, Del, Com, Drain, Hold, Flush, Unload, Hand}
use Rattle.session_lines.specs.declared.script.Script.{Script}
use Rattle.session_lines.specs.Standing.{AreBySessions, AreSlow, is_one_of, moved_by}
use Rattle.session_lines.proofs.Shortest.{short_has_not}
use Rattle.journal_entries.specs.declared.limits.TheConstants.{MAX_BASE, MAX_RAW_SOURCE}
use Rattle.session_lines.specs.declared.limits.TheConstants.{MAX_TICK}

-- ---- a line by itself
abbrev IsBy : ℕ → Line → Type 0
IsBy s l = (session_of l ≡ Some s) × (moved_by l ≤ MAX_TICK)

abbrev IsByNone : Line → Type 0
IsByNone l = (session_of l ≡ None) × (moved_by l ≤ MAX_TICK)

doc_by : (d : Data) → IfGiven IsByNone (doc_line d)
doc_by d =
    given_then IsByNone _ (name_at (codes "doc") d) (λ doc. given_then IsByNone _ (name_at (codes "project") d) (λ project.
    given_then IsByNone _ (number_or_zero MAX_BASE (codes "v") d) (λ v. given_then IsByNone _ (option_and_then first_text (units_at (codes "text") d)) (λ text. (refl, omega arith)))))

raw_by : (s : ℕ) (d : Data) → IfGiven (IsBy s) (raw_line s d)
raw_by s d =
    given_then (IsBy s) _ (number_at (codes "v") d) (λ v. given_then (IsBy s) _ (number_or_zero MAX_RAW_SOURCE (codes "source") d) (λ source.
    given_then (IsBy s) _ (flag_or_false (codes "track") d) (λ track. given_then (IsBy s) _ (name_at (codes "doc") d) (λ doc. given_then (IsBy s) _ (name_at (codes "user") d) (λ user.
    given_then (IsBy s) _ (sources_or_none (codes "dup") d) (λ dup. given_then (IsBy s) _ (get (codes "op") d) (λ op. (refl, omega arith))))))))

del_by : (s p n : ℕ) (b : Bool) → IfGiven (IsBy s) (if b then None else Some (Del s p n))
del_by s p n true = tt
del_by s p n false = (refl, omega arith)

action_by : (action : Action) (s : ℕ) (d : Data) → IfGiven (IsBy s) (action_line action s d)
action_by DoTick s d = given_map_with (λ ms. ms ≤ MAX_TICK) (IsBy s) (λ (ms : ℕ). Tick s ms) (whole_at MAX_TICK (codes "ms") d) (whole_given MAX_TICK (codes "ms") d) (λ ms low. (refl, low))
action_by DoRaw s d = raw_by s d
action_by DoJoin s d = given_then (IsBy s) _ (flag_or_false (codes "track") d) (λ track. given_then (IsBy s) _ (name_at (codes "doc") d) (λ doc. given_then (IsBy s) _ (name_at (codes "user") d) (λ user. (refl, omega arith))))
action_by DoRejoin s d = (refl, omega arith)
action_by DoLeave s d = (refl, omega arith)
action_by DoSend s d = (refl, omega arith)
action_by DoResend s d = (refl, omega arith)
action_by DoRecv s d = (refl, omega arith)
action_by DoSync s d = (refl, omega arith)
action_by DoFinish s d = (refl, omega arith)
action_by DoIns s d = given_then (IsBy s) _ (u32_at (codes "p") d) (λ p. given_map (IsBy s) (λ (text : List ℕ). Ins s p text) (option_and_then solid (units_at (codes "s") d)) (λ text. (refl, omega arith)))
action_by DoDel s d = given_then (IsBy s) _ (u32_at (codes "p") d) (λ p. given_then (IsBy s) _ (u32_at (codes "n") d) (λ n. del_by s p n (n == 0)))
action_by DoCom s d = given_then (IsBy s) _ (u32_at (codes "p") d) (λ p. given_then (IsBy s) _ (u32_at (codes "n") d) (λ n. given_map (IsBy s) (λ (t : ℕ). Com s p n t) (u32_at (codes "t") d) (λ t. (refl, omega arith))))
action_by DoDrain s d = given_map (IsBy s) (λ (doc : List ℕ). Drain s doc) (name_at (codes "doc") d) (λ doc. (refl, omega arith))
action_by DoHold s d = given_map (IsBy s) (λ (doc : List ℕ). Hold s doc) (name_at (codes "doc") d) (λ doc. (refl, omega arith))
action_by DoFlush s d = given_map (IsBy s) (λ (doc : List ℕ). Flush s doc) (name_at (codes "doc") d) (λ doc. (refl, omega arith))
action_by DoUnload s d = given_map (IsBy s) (λ (doc : List ℕ). Unload s doc) (name_at (codes "doc") d) (λ doc. (refl, omega arith))
action_by DoHand s d = given_then (IsBy s) _ (u32_at (codes "n") d) (λ n. given_map (IsBy s) (λ (project : List ℕ). Hand s project n) (name_at (codes "project") d) (λ project. (refl, omega arith)))

-- ---- names
module _ {X : Type 0} (p : X → Bool) where
  place_found : (xs : List X) → list_any p xs ≡ true → position_or_len p xs < length xs
  place_found [] e = absurd (true≢false (sym e))
  place_found (x ∷ xs) e = go (p x) e (place_found xs)
    where
      go : (b : Bool) → (b || list_any p xs) ≡ true → (list_any p xs ≡ true → position_or_len p xs < length xs) → cond (not b) (1 + position_or_len p xs) 0 < length (x ∷ xs)
      go true e h = omega arith
      go false e h = let l = h e in omega (arith, l)

  place_within : (xs : List X) → position_or_len p xs ≤ length xs
  place_within [] = omega arith
  place_within (x ∷ xs) = go (p x) (place_within xs)
    where
      go : (b : Bool) → position_or_len p xs ≤ length xs → cond (not b) (1 + position_or_len p xs) 0 ≤ length (x ∷ xs)
      go true h = omega arith
      go false h = omega (arith, h)

  placed : (xs : List X) (k : X) (b : Bool) → list_any p xs ≡ b → (position_or_len p xs < length (if b then xs else xs ++ k ∷ [])) × (length xs ≤ length (if b then xs else xs ++ k ∷ []))
  placed xs k true e = (place_found xs e, omega arith)
  placed xs k false e = let w = place_within xs in let l : length (xs ++ k ∷ []) ≡ length xs + 1 = length-append xs (k ∷ []) in (omega (arith, w, l), omega (arith, l))

named : (names : List (List ℕ)) (name : List ℕ) → (number_of_name names name < length (with_name names name)) × (length names ≤ length (with_name names name))
named names name = placed (same_name name) names name (list_any (same_name name) names) refl

-- ---- a script
one_of_more : (n m : ℕ) (s : Option ℕ) → n ≤ m → is_one_of n s ≡ true → is_one_of m s ≡ true
one_of_more n m None le e = refl
one_of_more n m (Some s) le e = grind (arith, nat_tests)

by_more : (n m : ℕ) (lines : List Line) → n ≤ m → AreBySessions n lines → AreBySessions m lines
by_more n m [] le all = refl
by_more n m (line ∷ lines) le all =
    let both = and_parts (is_one_of n (session_of line)) (list_all (λ l. is_one_of n (session_of l)) lines) all in
    ap₂ (λ (p q : Bool). p && q) (one_of_more n m (session_of line) le both.0) (by_more n m lines le both.1)

record IsNumbered (budget : ℕ) (s : Script) : Type 0 where
  count : s.sessions ≡ length s.names
  by : AreBySessions (length s.names) s.lines
  slow : 4 * sum_by moved_by s.lines ≤ budget

line_numbered : (budget : ℕ) (lines : List Line) (names : List (List ℕ)) (l : Line) → AreBySessions (length names) lines → 4 * sum_by moved_by lines ≤ budget → is_one_of (length names) (session_of l) ≡ true → moved_by l ≤ MAX_TICK
    → IfGiven (IsNumbered (budget + 4 * MAX_TICK)) (with_line lines names l)
line_numbered budget lines names l by slow one low = given_where (IsNumbered (budget + 4 * MAX_TICK)) (may_follow lines l) (script (lines ++ l ∷ []) names) (λ may. record {
  count = refl;
  by = list_all-append (λ x. is_one_of (length names) (session_of x)) lines (l ∷ []) ∙ ap₂ (λ (p q : Bool). p && (q && true)) by one;
  slow = let sum = sum_by-append moved_by lines (l ∷ []) in omega (arith, sum, slow, low);
})

one_by : (n s : ℕ) (l : Line) → s < n → session_of l ≡ Some s → is_one_of n (session_of l) ≡ true
one_by n s l lt is = ap (is_one_of n) is ∙ below
  where
    below : nat_lt s n ≡ true
    below = grind (arith, nat_tests)

command_numbered : (budget : ℕ) (lines : List Line) (names : List (List ℕ)) (command : Command) (d : Data) → AreBySessions (length names) lines → 4 * sum_by moved_by lines ≤ budget → IfGiven (IsNumbered (budget + 4 * MAX_TICK)) (by_command lines names command d)
command_numbered budget lines names DoDoc d by slow = given_with IsByNone (IsNumbered (budget + 4 * MAX_TICK)) _ (doc_line d) (doc_by d) (λ l none. line_numbered budget lines names l by slow (ap (is_one_of (length names)) none.0) none.1)
command_numbered budget lines names (BySession action) d by slow = given_then (IsNumbered (budget + 4 * MAX_TICK)) _ (name_at (codes "as") d) (λ name.
    given_choice (IsNumbered (budget + 4 * MAX_TICK)) (nat_le (length (with_name names name)) 256) _ _
    (given_with (IsBy (number_of_name names name)) (IsNumbered (budget + 4 * MAX_TICK)) _ (action_line action (number_of_name names name) d) (action_by action (number_of_name names name) d)
    (λ l is. line_numbered budget lines (with_name names name) l (by_more (length names) (length (with_name names name)) lines (named names name).1 by) slow
    (one_by (length (with_name names name)) (number_of_name names name) l (named names name).0 is.0) is.1)) tt)

or_numbered : (budget : ℕ) (fault : ScriptFault) (o : Option Script) → IfGiven (IsNumbered budget) o → IfOk (or_fault fault o) (IsNumbered budget)
or_numbered budget fault None good = tt
or_numbered budget fault (Some s) good = good

known_numbered : (budget n : ℕ) (s : Script) (d : Data) (o : Option Command) → IsNumbered budget s → IfOk (with_command n s d o) (IsNumbered (budget + 4 * MAX_TICK))
known_numbered budget n s d None was = tt
known_numbered budget n s d (Some command) was = or_numbered (budget + 4 * MAX_TICK) _ _ (given_choice (IsNumbered (budget + 4 * MAX_TICK)) (key_count d == line_keys command d) _ _ (command_numbered budget s.lines s.names command d was.by was.slow) tt)

name_numbered : (budget n : ℕ) (s : Script) (d : Data) (o : Option (List ℕ)) → IsNumbered budget s → IfOk (with_name_of_command n s d o) (IsNumbered (budget + 4 * MAX_TICK))
name_numbered budget n s d None was = tt
name_numbered budget n s d (Some name) was = known_numbered budget n s d (command_of name) was

-- more may be spent
spent : (budget more : ℕ) (r : Result Script ScriptFault) → budget ≤ more → IfOk r (IsNumbered budget) → IfOk r (IsNumbered more)
spent budget more (Err fault) le good = tt
spent budget more (Ok s) le good = let was = good.slow in record { count = good.count; by = good.by; slow = omega (arith, le, was) }

value_numbered : (budget n : ℕ) (s : Script) (line : List ℕ) (o : Option Data) → (length line ≤ 2 → IfGiven (λ d. get (codes "do") d ≡ None) o) → IsNumbered budget s
    → IfOk (with_value n s o) (IsNumbered (budget + MAX_TICK * (length line + 1)))
value_numbered budget n s line None short was = tt
value_numbered budget n s line (Some d) short was = known_or_short (nat_le (length line) 2) refl
  where
    known_or_short : (b : Bool) → nat_le (length line) 2 ≡ b → IfOk (with_value n s (Some d)) (IsNumbered (budget + MAX_TICK * (length line + 1)))
    known_or_short true e =
        let none : text_at (codes "do") d ≡ None = ap (option_and_then as_str) (short (leb-true (length line) 2 e)) in
        rw none tt
    known_or_short false e =
        let long : 3 ≤ length line = grind (arith, nat_tests) in
        spent (budget + 4 * MAX_TICK) (budget + MAX_TICK * (length line + 1)) _ (omega (arith, long)) (name_numbered budget n s d (text_at (codes "do") d) was)

-- ---- the bytes of lines, each with a line feed
abbrev bytes_of : List (List ℕ) → ℕ
bytes_of [] = 0
bytes_of (line ∷ lines) = length line + 1 + bytes_of lines

then_numbered : (budget more_budget : ℕ) (more : Script → Result Script ScriptFault) (r : Result Script ScriptFault) → IfOk r (IsNumbered budget) → ((s : Script) → IsNumbered budget s → IfOk (more s) (IsNumbered more_budget)) → IfOk (then_lines more r) (IsNumbered more_budget)
then_numbered budget more_budget more (Ok s) good h = h s good
then_numbered budget more_budget more (Err fault) good h = tt

lines_numbered : (budget n : ℕ) (ls : List (List ℕ)) (s : Script) → IsNumbered budget s → IfOk (with_lines n ls s) (IsNumbered (budget + MAX_TICK * bytes_of ls))
lines_numbered budget n [] s was = let w = was.slow in record { count = was.count; by = was.by; slow = omega (arith, w) }
lines_numbered budget n (line ∷ ls) s was =
    then_numbered (budget + MAX_TICK * (length line + 1)) (budget + MAX_TICK * bytes_of (line ∷ ls)) (with_lines (n + 1) ls) (next_script n s line)
    (value_numbered budget n s line (value_of line) (short_has_not (codes "do") line) was)
    (λ next good. spent (budget + MAX_TICK * (length line + 1) + MAX_TICK * bytes_of ls) (budget + MAX_TICK * bytes_of (line ∷ ls)) _ (omega arith)
    (lines_numbered (budget + MAX_TICK * (length line + 1)) (n + 1) ls next good))

-- a byte more brings one more, or two where it opens the last line
onto_bytes : (x n : ℕ) (ls : List (List ℕ)) → bytes_of ls ≤ n → 1 ≤ n → bytes_of (onto_first x ls) ≤ n + 1
onto_bytes x n [] few some = omega (arith, some)
onto_bytes x n (l ∷ ls) few some = omega (arith, few)

choice_bytes : (b : Bool) (xs ys : List (List ℕ)) (n : ℕ) → bytes_of xs ≤ n → bytes_of ys ≤ n → bytes_of (if b then xs else ys) ≤ n
choice_bytes true xs ys n h k = h
choice_bytes false xs ys n h k = k

cut_bytes : (bytes : List ℕ) → bytes_of (lines_of bytes) ≤ length bytes + 1
cut_bytes [] = omega arith
cut_bytes (x ∷ xs) =
    let h = cut_bytes xs in
    let k = onto_bytes x (length xs + 1) (lines_of xs) h (omega arith) in
    choice_bytes (x == 10) ([] ∷ lines_of xs) (onto_first x (lines_of xs)) (length (x ∷ xs) + 1) (omega (arith, h)) (omega (arith, k))

numbered : (bytes : List ℕ) (s : Script) → script_of bytes ≡ Ok s → IsNumbered (0 + MAX_TICK * bytes_of (lines_of bytes)) s
numbered bytes s is = subst (λ (r : Result Script ScriptFault). IfOk r (IsNumbered (0 + MAX_TICK * bytes_of (lines_of bytes)))) is (lines_numbered 0 1 (lines_of bytes) (script [] []) (record { count = refl; by = refl; slow = omega arith }))

-- what a script that was read promises of its sessions, of their names and of its ticks
pub read_by : (bytes : List ℕ) (s : Script) → script_of bytes ≡ Ok s → AreBySessions s.sessions s.lines
read_by bytes s is = let good = numbered bytes s is in subst (λ (n : ℕ). AreBySessions n s.lines) (sym good.count) good.by

pub read_named : (bytes : List ℕ) (s : Script) → script_of bytes ≡ Ok s → length s.names ≡ s.sessions
read_named bytes s is = sym (numbered bytes s is).count

pub read_slow : (bytes : List ℕ) (s : Script) → script_of bytes ≡ Ok s → AreSlow (length bytes) s.lines
read_slow bytes s is = let good = (numbered bytes s is).slow in let cut = cut_bytes bytes in omega (arith, good, cut)
