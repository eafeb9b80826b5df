-- How far a client's version and number go.
use Rattle.std.proofs.Common.{◌≡◌, ℕ, ◌+◌, ◌≤◌, List, [], ◌∷◌, ◌++◌, length, Bool, true, false, refl, ap, ◌∙◌, arith, eqb, length-append}
use Rattle.std.specs.Prelude.{Option, Some, None, if◌then◌else◌}
use Rattle.ot_op.specs.declared.comp.Comp.{Comp}
use Rattle.journal_entries.specs.declared.message.Msg.{Msg}
use Rattle.journal_entries.specs.declared.message.Msg.TheVariants.{Op}
use Rattle.journal_entries.specs.declared.act.Act.{Act}
use Rattle.journal_entries.specs.declared.act.Act.TheVariants.{Joined as JoinedAct, Edited, Sent, Got, Left as LeftAct}
use Rattle.journal_entries.specs.declared.act.Entry.{Entry}
use Rattle.journal_rules.specs.declared.state.ClientState.TheVariants.{Joined, Left}
use Rattle.journal_rules.specs.Documents.{Item}
use Rattle.journal_rules.specs.Mail.{mail}
use Rattle.journal_rules.specs.Client.{Client, client, client_by, is_alive, is_of, caught_up, delivered, items_between, joined_by, back_under, edited_by, sent_by, got_by, left_by}
use Rattle.journal_rules.specs.Legal.{IsLegal, highest_base}
use Rattle.journal_rules.proofs.Pushing.{client-push, client-none}
use Rattle.journal_rules.proofs.Waits.{by_end}
use Rattle.journal_laws.specs.ClientLaw.{Shows}
use Rattle.journal_laws.proofs.World.{delivered_number}
use Rattle.journal_laws.proofs.Unmade.{version_low}
use Rattle.journal_laws.proofs.Laws.{shows}

-- a version is the document's at some time
pub version_within : (c : ℕ) (j : List Entry) → IsLegal j → is_alive (client c j).state ≡ true → (client c j).version ≤ highest_base + length j
version_within c j legal lives =
    let sh : Shows c j (client c j) = shows c j legal lives in
    let high = sh.high in let low = version_low (client c j).doc j legal in
    omega (arith, high, low)

-- and a client has no more updates than there are entries
number_if : (b : Bool) (s t : Client) (n : ℕ) → s.number ≤ n → t.number ≤ n → (if b then s else t).number ≤ n
number_if true s t n a b = a
number_if false s t n a b = b

caught_number : (xs : List Item) (s : Client) → (caught_up s xs).number ≡ s.number
caught_number [] s = refl
caught_number (x ∷ xs) s = caught_number xs (delivered s (Op x.v x.op x.update.source)) ∙ delivered_number s (Op x.v x.op x.update.source)

sent_number : (s : Client) (f : Option (List Comp)) → (sent_by s f).number ≤ s.number + 1
sent_number s None = omega arith
sent_number s (Some f) = omega arith

got_number : (s : Client) (ms : List Msg) → (got_by s ms).number ≤ s.number + 1
got_number s [] = omega arith
got_number s (m ∷ ms) = let d = delivered_number s m in omega (arith, d)

number_by : (c : ℕ) (h : List Entry) (a : Act) (s : Client) → (client_by c h a s).number ≤ s.number + 1
number_by c h (JoinedAct k doc user track None source v) s = number_if (eqb k c) (joined_by s h doc user track None source v) s (s.number + 1) (omega arith) (omega arith)
number_by c h (JoinedAct k doc user track (Some n) source v) s =
    let t : Client = caught_up s (items_between doc n v h) in
    let same = caught_number (items_between doc n v h) s in
    number_if (eqb k c) (back_under source t) s (s.number + 1)
    (number_if (is_alive t.state) (record t { state = Joined; source = source }) t (s.number + 1) (omega (arith, same)) (omega (arith, same))) (omega arith)
number_by c h (Edited k comp) s = number_if (eqb k c) (edited_by s comp) s (s.number + 1) (omega arith) (omega arith)
number_by c h (Sent u) s = number_if (is_of c u.client) (sent_by s s.flight) s (s.number + 1) (sent_number s s.flight) (omega arith)
number_by c h (Got k brief) s = number_if (eqb k c) (got_by s (mail c h)) s (s.number + 1) (got_number s (mail c h)) (omega arith)
number_by c h (LeftAct k) s = number_if (eqb k c) (left_by s) s (s.number + 1) (number_if (is_alive s.state) (record s { state = Left }) s (s.number + 1) (omega arith) (omega arith)) (omega arith)
number_by c h _ s = omega arith

pub number_low : (c : ℕ) (j : List Entry) → (client c j).number ≤ length j
number_low c = by_end (λ j. (client c j).number ≤ length j) (let n = ap (λ (s : Client). s.number) (client-none c) in omega (arith, n)) more
  where
    more : (h : List Entry) (e : Entry) → (client c h).number ≤ length h → (client c (h ++ e ∷ [])).number ≤ length (h ++ e ∷ [])
    more h e low =
        let p = ap (λ (s : Client). s.number) (client-push c h e) in
        let b = number_by c h e.act (client c h) in
        let l = length-append h (e ∷ []) in
        omega (arith, p, b, l, low)
