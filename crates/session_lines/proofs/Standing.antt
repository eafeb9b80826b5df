-- The lines of a script that was read stand: each is within its limits, and may stand behind those before it.
use Rattle.std.proofs.Common.{◌≡◌, ◌≢◌, ℕ, zero, suc, ◌+◌, ◌<◌, ◌≤◌, List, [], ◌∷◌, ◌++◌, Bool, true, false, refl, sym, ap, subst, arith, length, append-nil, append_assoc, length-append}
use Rattle.std.specs.Prelude.{Option, Some, None, option_map, Result, Ok, Err, IfOk, ◌==◌, nat_le, codes, if◌then◌else◌}
use Rattle.std.specs.Option.{option_and_then}
use Rattle.std.proofs.lemmas.Bool.{leb-true}
use Rattle.serde_json.specs.Data.{Data}
use Rattle.serde_json.specs.Find.{get}
use Rattle.json_lines.specs.Lines.{lines_of, onto_first, value_of}
use Rattle.json_lines.specs.Reading.{has_key, key_count, number_at, text_at, whole_at}
use Rattle.ot_op.specs.Operation.{IsWithinLimits}
use Rattle.ot_json.proofs.Given.{IfGiven, given_then, given_with, given_map, given_choice, given_where, whole_given}
use Rattle.ot_json.proofs.Limits.{operation_within}
use Rattle.session_lines.specs.Command.{command_of}
use Rattle.session_lines.specs.Fields.{name_at, units_at, u32_at, number_or_zero, flag_or_false, sources_or_none}
use Rattle.session_lines.specs.Line.{doc_line, raw_line, raw_operation, action_line, first_text, line_keys, solid}
use Rattle.session_lines.specs.Names.{number_of_name, with_name}
use Rattle.session_lines.specs.Script.{may_follow, script, with_line, by_session, by_command, or_fault, with_command, with_name_of_command, with_value, next_script, then_lines, with_lines, script_of}
use Rattle.session_lines.specs.Standing.{IsWithin, AreStanding}
use Rattle.session_lines.specs.declared.command.Action.{Action}
use Rattle.session_lines.specs.declared.command.Action.TheVariants.{Tick as DoTick, Raw as DoRaw, Join as DoJoin, Rejoin as DoRejoin, Leave as DoLeave, Send as DoSend, Resend as DoResend, Recv as DoRecv, Sync as DoSync, Finish as DoFinish, Ins as DoIns, Del as DoDel, Com as DoCom, Drain as DoDrain, Hold as DoHold, Flush as DoFlush, Unload as DoUnload, Hand as DoHand}
use Rattle.session_lines.specs.declared.command.Command.{Command}
use Rattle.session_lines.specs.declared.command.Command.TheVariants.{Doc as DoDoc, BySession}
use Rattle.session_lines.specs.declared.fault.ScriptFault.{ScriptFault}
use Rattle.session_lines.specs.declared.line.Line.{Line}
use Rattle.session_lines.specs.declared.line.Line.TheVariants.{Tick, Ins, Del, Com, Drain, Hold, Flush, Unload, Hand}
use Rattle.session_lines.specs.declared.script.Script.{Script}
use Rattle.ot_op.specs.declared.limits.TheConstants.{MAX_TEXT_UNITS}
use Rattle.journal_entries.specs.declared.limits.TheConstants.{MAX_BASE, MAX_RAW_SOURCE}
use Rattle.session_lines.specs.declared.limits.TheConstants.{MAX_TICK}

-- ---- a line by itself

number_given : (max : ℕ) (k : List ℕ) (d : Data) → IfGiven (λ n. n ≤ max) (number_or_zero max k d)
number_given max k d = given_choice (λ n. n ≤ max) (has_key k d) (whole_at max k d) (Some 0) (whole_given max k d) (omega arith)

text_given : (us : List ℕ) → IfGiven (λ (t : List ℕ). length t ≤ MAX_TEXT_UNITS) (first_text us)
text_given us = given_where (λ (t : List ℕ). length t ≤ MAX_TEXT_UNITS) (nat_le (length us) MAX_TEXT_UNITS) us (λ is. leb-true (length us) MAX_TEXT_UNITS is)

doc_within : (d : Data) → IfGiven IsWithin (doc_line d)
doc_within d =
    given_then IsWithin _ (name_at (codes "doc") d) (λ doc. given_then IsWithin _ (name_at (codes "project") d) (λ project.
    given_with (λ v. v ≤ MAX_BASE) IsWithin _ (number_or_zero MAX_BASE (codes "v") d) (number_given MAX_BASE (codes "v") d) (λ v low.
    given_with (λ (t : List ℕ). length t ≤ MAX_TEXT_UNITS) IsWithin _ _ (given_then (λ (t : List ℕ). length t ≤ MAX_TEXT_UNITS) first_text (units_at (codes "text") d) text_given) (λ text short. (short, low)))))

raw_given : (d : Data) → IfOk (raw_operation d) IsWithinLimits
unfolding raw_operation
raw_given d = operation_within d

raw_within : (s : ℕ) (d : Data) → IfGiven IsWithin (raw_line s d)
raw_within s d =
    given_then IsWithin _ (number_at (codes "v") d) (λ v. given_with (λ n. n ≤ MAX_RAW_SOURCE) IsWithin _ (number_or_zero MAX_RAW_SOURCE (codes "source") d) (number_given MAX_RAW_SOURCE (codes "source") d) (λ source low.
    given_then IsWithin _ (flag_or_false (codes "track") d) (λ track. given_then IsWithin _ (name_at (codes "doc") d) (λ doc. given_then IsWithin _ (name_at (codes "user") d) (λ user.
    given_then IsWithin _ (sources_or_none (codes "dup") d) (λ dup. given_then IsWithin _ (get (codes "op") d) (λ op. (low, raw_given op))))))))

del_within : (s p n : ℕ) (b : Bool) → (n == 0) ≡ b → IfGiven IsWithin (if b then None else Some (Del s p n))
del_within s p n true is = tt
del_within s p n false is = some n is
  where
    some : (n : ℕ) → (n == 0) ≡ false → 0 < n
    some zero is = absurd (cc)
    some (suc n) is = omega arith

solid_given : (us : List ℕ) → IfGiven (λ (t : List ℕ). t ≢ []) (solid us)
solid_given [] = tt
solid_given (u ∷ us) = λ is. absurd (cc)

ins_within : (s p : ℕ) (o : Option (List ℕ)) → IfGiven (λ (t : List ℕ). t ≢ []) o → IfGiven IsWithin (option_map (λ (text : List ℕ). Ins s p text) o)
ins_within s p None given = tt
ins_within s p (Some text) given = given

action_within : (action : Action) (s : ℕ) (d : Data) → IfGiven IsWithin (action_line action s d)
action_within DoTick s d = given_map IsWithin (λ (ms : ℕ). Tick s ms) (whole_at MAX_TICK (codes "ms") d) (λ ms. tt)
action_within DoRaw s d = raw_within s d
action_within DoJoin s d = given_then IsWithin _ (flag_or_false (codes "track") d) (λ track. given_then IsWithin _ (name_at (codes "doc") d) (λ doc. given_then IsWithin _ (name_at (codes "user") d) (λ user. tt)))
action_within DoRejoin s d = tt
action_within DoLeave s d = tt
action_within DoSend s d = tt
action_within DoResend s d = tt
action_within DoRecv s d = tt
action_within DoSync s d = tt
action_within DoFinish s d = tt
action_within DoIns s d = given_then IsWithin _ (u32_at (codes "p") d) (λ p. ins_within s p (option_and_then solid (units_at (codes "s") d)) (given_then (λ (t : List ℕ). t ≢ []) solid (units_at (codes "s") d) solid_given))
action_within DoDel s d = given_then IsWithin _ (u32_at (codes "p") d) (λ p. given_then IsWithin _ (u32_at (codes "n") d) (λ n. del_within s p n (n == 0) refl))
action_within DoCom s d = given_then IsWithin _ (u32_at (codes "p") d) (λ p. given_then IsWithin _ (u32_at (codes "n") d) (λ n. given_map IsWithin (λ (t : ℕ). Com s p n t) (u32_at (codes "t") d) (λ t. tt)))
action_within DoDrain s d = given_map IsWithin (λ (doc : List ℕ). Drain s doc) (name_at (codes "doc") d) (λ doc. tt)
action_within DoHold s d = given_map IsWithin (λ (doc : List ℕ). Hold s doc) (name_at (codes "doc") d) (λ doc. tt)
action_within DoFlush s d = given_map IsWithin (λ (doc : List ℕ). Flush s doc) (name_at (codes "doc") d) (λ doc. tt)
action_within DoUnload s d = given_map IsWithin (λ (doc : List ℕ). Unload s doc) (name_at (codes "doc") d) (λ doc. tt)
action_within DoHand s d = given_then IsWithin _ (u32_at (codes "n") d) (λ n. given_map IsWithin (λ (project : List ℕ). Hand s project n) (name_at (codes "project") d) (λ project. tt))

-- one line more stands
standing_push : (earlier ls : List Line) (l : Line) → AreStanding earlier ls → IsWithin l → may_follow (earlier ++ ls) l ≡ true → AreStanding earlier (ls ++ l ∷ [])
standing_push earlier [] l standing within may = (within, subst (λ (b : List Line). may_follow b l ≡ true) (append-nil earlier) may, tt)
standing_push earlier (x ∷ xs) l standing within may =
    (standing.0, standing.1, standing_push (earlier ++ x ∷ []) xs l standing.2 within (subst (λ (b : List Line). may_follow b l ≡ true) (sym (append_assoc earlier (x ∷ []) xs)) may))

-- ---- a script

-- the lines standing, and are so many
pub record AreGood (count : ℕ) (s : Script) : Type 0 where
  pub standing : AreStanding [] s.lines
  pub count_is : length s.lines ≡ count

line_good : (ls : List Line) (names : List (List ℕ)) (l : Line) → AreStanding [] ls → IsWithin l → IfGiven (AreGood (length ls + 1)) (with_line ls names l)
line_good ls names l standing within = given_where (AreGood (length ls + 1)) (may_follow ls l) (script (ls ++ l ∷ []) names) (λ may.
    record { standing = standing_push [] ls l standing within may; count_is = length-append ls (l ∷ []) })

command_good : (ls : List Line) (names : List (List ℕ)) (command : Command) (d : Data) → AreStanding [] ls → IfGiven (AreGood (length ls + 1)) (by_command ls names command d)
command_good ls names DoDoc d standing = given_with IsWithin (AreGood (length ls + 1)) _ (doc_line d) (doc_within d) (λ l within. line_good ls names l standing within)
command_good ls names (BySession action) d standing = given_then (AreGood (length ls + 1)) _ (name_at (codes "as") d) (λ name.
    given_choice (AreGood (length ls + 1)) (nat_le (length (with_name names name)) 256) _ _
    (given_with IsWithin (AreGood (length ls + 1)) _ (action_line action (number_of_name names name) d) (action_within action (number_of_name names name) d) (λ l within. line_good ls (with_name names name) l standing within)) tt)

or_good : (n : ℕ) (fault : ScriptFault) (o : Option Script) → IfGiven (AreGood n) o → IfOk (or_fault fault o) (AreGood n)
or_good n fault None good = tt
or_good n fault (Some s) good = good

known_good : (n : ℕ) (s : Script) (d : Data) (o : Option Command) → AreStanding [] s.lines → IfOk (with_command n s d o) (AreGood (length s.lines + 1))
known_good n s d None standing = tt
known_good n s d (Some command) standing = or_good (length s.lines + 1) _ _ (given_choice (AreGood (length s.lines + 1)) (key_count d == line_keys command d) _ _ (command_good s.lines s.names command d standing) tt)

named_good : (n : ℕ) (s : Script) (d : Data) (o : Option (List ℕ)) → AreStanding [] s.lines → IfOk (with_name_of_command n s d o) (AreGood (length s.lines + 1))
named_good n s d None standing = tt
named_good n s d (Some name) standing = known_good n s d (command_of name) standing

value_good : (n : ℕ) (s : Script) (o : Option Data) → AreStanding [] s.lines → IfOk (with_value n s o) (AreGood (length s.lines + 1))
value_good n s None standing = tt
value_good n s (Some d) standing = named_good n s d (text_at (codes "do") d) standing

then_good : (count : ℕ) (more : Script → Result Script ScriptFault) (m : ℕ) (r : Result Script ScriptFault) → IfOk r (AreGood m) → ((s : Script) → AreGood m s → IfOk (more s) (AreGood count)) → IfOk (then_lines more r) (AreGood count)
then_good count more m (Ok s) good h = h s good
then_good count more m (Err fault) good h = tt

lines_good : (n : ℕ) (ls : List (List ℕ)) (s : Script) → AreStanding [] s.lines → IfOk (with_lines n ls s) (AreGood (length s.lines + length ls))
lines_good n [] s standing = record { standing = standing; count_is = omega arith }
lines_good n (line ∷ ls) s standing = then_good (length s.lines + length (line ∷ ls)) (with_lines (n + 1) ls) (length s.lines + 1) (next_script n s line) (value_good n s (value_of line) standing)
    (λ next good. let c = good.count_is in
    let same : length next.lines + length ls ≡ length s.lines + length (line ∷ ls) = omega (arith, c) in
    subst (λ k. IfOk (with_lines (n + 1) ls next) (AreGood k)) same (lines_good (n + 1) ls next good.standing))

onto_shorter : (x : ℕ) (ls : List (List ℕ)) → length (onto_first x ls) ≤ length ls + 1
onto_shorter x [] = omega arith
onto_shorter x (l ∷ ls) = omega arith

choice_shorter : (b : Bool) (xs ys : List (List ℕ)) (n : ℕ) → length xs ≤ n → length ys ≤ n → length (if b then xs else ys) ≤ n
choice_shorter true xs ys n h k = h
choice_shorter false xs ys n h k = k

fewer_lines : (bytes : List ℕ) → length (lines_of bytes) ≤ length bytes
fewer_lines [] = omega arith
fewer_lines (x ∷ xs) =
    let h = fewer_lines xs in
    let k = onto_shorter x (lines_of xs) in
    choice_shorter (x == 10) ([] ∷ lines_of xs) (onto_first x (lines_of xs)) (length (x ∷ xs)) (omega (arith, h)) (omega (arith, h, k))

-- what a script that was read promises
pub stands : (bytes : List ℕ) (s : Script) → script_of bytes ≡ Ok s → AreStanding [] s.lines × (length s.lines ≤ length bytes)
stands bytes s is =
    let good = subst (λ (r : Result Script ScriptFault). IfOk r (AreGood (0 + length (lines_of bytes)))) is (lines_good 1 (lines_of bytes) (script [] []) tt) in
    let c = good.count_is in let f = fewer_lines bytes in
    (good.standing, omega (arith, c, f))

pub read_stands : (bytes : List ℕ) (s : Script) → script_of bytes ≡ Ok s → AreStanding [] s.lines
read_stands bytes s is = (stands bytes s is).0

pub read_short : (bytes : List ℕ) (s : Script) → script_of bytes ≡ Ok s → length s.lines ≤ length bytes
read_short bytes s is = (stands bytes s is).1
