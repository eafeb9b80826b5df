-- A legal journal is legal but for clients and texts.
use Rattle.std.proofs.Common.{◌≡◌, inl, inr, ℕ, ◌+◌, ◌≤◌, List, [], ◌∷◌, ◌++◌, length, Bool, true, false, true≢false, refl, sym, ap, ◌∙◌, subst, arith, eqb}
use Rattle.std.specs.Prelude.{Option, Some, None, if◌then◌else◌}
use Rattle.std.proofs.lemmas.Bool.{eqb-true}
use Rattle.ot_op.specs.declared.comp.Comp.{Comp}
use Rattle.ot_transform.specs.Crossing.{through}
use Rattle.ot_transform.specs.Room.{new_units_of_all}
use Rattle.ot_transform.specs.Size.{NoLarger}
use Rattle.ot_transform.proofs.Converging.{given_at}
use Rattle.ot_transform.proofs.Following.{through_no_larger}
use Rattle.ranges_tracker.specs.Cells.{text_of}
use Rattle.journal_entries.specs.declared.update.Update.{Update}
use Rattle.journal_entries.specs.declared.update.Outcome.{Outcome}
use Rattle.journal_entries.specs.declared.update.Outcome.TheVariants.{Applied, Dup, Refused}
use Rattle.journal_entries.specs.declared.message.Msg.{Msg}
use Rattle.journal_entries.specs.declared.message.Msg.TheVariants.{Op, Ack, Error}
use Rattle.journal_entries.specs.declared.why.Why.{Why}
use Rattle.journal_entries.specs.declared.why.Why.TheVariants.{NotJoined, NotLeft, TooOld, PastEnd, Full, InFlight}
use Rattle.journal_entries.specs.declared.act.Act.{Act}
use Rattle.journal_entries.specs.declared.act.Act.TheVariants.{Joined as JoinedAct, Edited, Sent, Got, Left as LeftAct, Committed, Declined}
use Rattle.journal_entries.specs.declared.act.Entry.{Entry}
use Rattle.journal_rules.specs.declared.state.ClientState.TheVariants.{Joined, Left}
use Rattle.journal_rules.specs.Documents.{IsMade, Item, base, version, text, update_at}
use Rattle.journal_rules.specs.Deciding.{longest, decided, decided_of, passed_since}
use Rattle.journal_rules.specs.Locks.{clock}
use Rattle.journal_rules.specs.Tracking.{cells_at}
use Rattle.journal_rules.specs.Mail.{mail}
use Rattle.journal_rules.specs.Client.{Client, client, client_by, is_alive, is_of, caught_up, delivered, items_between, joined_by, edited_by, sent_by, got_by}
use Rattle.journal_rules.specs.Legal.{IsAllowed, IsLegal, IsDecision, IsOutcome, IsSending}
use Rattle.journal_rules.specs.Whys.{IsWhy}
use Rattle.journal_rules.proofs.Pushing.{client-push, client-none}
use Rattle.journal_rules.proofs.Legality as rules
use Rattle.journal_rules.proofs.Fencing as fencing
use Rattle.journal_rules.proofs.Replaying.{ops}
use Rattle.journal_laws.specs.ClientLaw.{Shows}
use Rattle.journal_laws.proofs.Cells.{cells_of_text}
use Rattle.journal_laws.proofs.ClientsOn.{delivered_alive}
use Rattle.journal_laws.proofs.Laws.{shows}
use Rattle.journal_laws.proofs.Updates.{Decided, decided_applies, text_at_version, Sends, Fresh, Again, sending_is}
use Rattle.journal_laws.proofs.World.{joined_alive}
use Rattle.journal_sizes.specs.Sizes.{IsLight, AreSized}
use Rattle.journal_sizes.proofs.Clients.{client_sized, text_short}
use Rattle.journal_sizes.proofs.Updates as sizes
use Rattle.loading_rules.specs.Joinings.{Joining, joining_by, last_joining, IsAsJoined}
use Rattle.loading_rules.specs.Passable.{AppliesPassable, IsPassable}
use Rattle.loading_rules.specs.LegalBut.{IsAllowedBut, IsClientUpdate, IsDecisionBut, IsLegalBut, IsOutcomeBut, IsSendingBut, IsWhyBut}
use Rattle.loading_rules.proofs.Joinings.{last_joining-push}
use Rattle.loading_rules.proofs.Legality.{legal_push}
use Rattle.loading_rules.proofs.Placing.{IsBelow, put_delivered}
use Rattle.loading_rules.proofs.Reaching.{near_enough}

-- ---- deliveries leave a client in its place
record IsSamePlace (s t : Client) : Type 0 where
  doc_is : t.doc ≡ s.doc
  user_is : t.user ≡ s.user
  track_is : t.track ≡ s.track
  source_is : t.source ≡ s.source

same_delivered : (s : Client) (m : Msg) → IsSamePlace s (delivered s m)
same_delivered s m = let p = put_delivered (above m) s m (is_below m) in record { doc_is = p.doc_is; user_is = p.user_is; track_is = p.track_is; source_is = p.source_is }
  where
    above : Msg → ℕ
    above (Op v op source) = v + 1
    above (Ack v number) = v + 1
    above (Error number cause) = 0

    is_below : (m : Msg) → IsBelow (above m) m
    is_below (Op v op source) = omega arith
    is_below (Ack v number) = omega arith
    is_below (Error number cause) = tt

same_caught : (s : Client) (xs : List Item) → IsSamePlace s (caught_up s xs)
same_caught s [] = record { doc_is = refl; user_is = refl; track_is = refl; source_is = refl }
same_caught s (x ∷ xs) =
    let one = same_delivered s (Op x.v x.op x.update.source) in
    let rest = same_caught (delivered s (Op x.v x.op x.update.source)) xs in
    record { doc_is = rest.doc_is ∙ one.doc_is; user_is = rest.user_is ∙ one.user_is; track_is = rest.track_is ∙ one.track_is; source_is = rest.source_is ∙ one.source_is }

-- ---- a client of a legal journal is as it joined last
record IsFrom (s : Client) (o : Option Joining) : Type 0 where
  joining : Joining
  last : o ≡ Some joining
  doc_is : joining.doc ≡ s.doc
  user_is : joining.user ≡ s.user
  track_is : joining.track ≡ s.track
  source_is : joining.source ≡ s.source

from_same : (s t : Client) (o : Option Joining) → IsSamePlace s t → IsFrom s o → IsFrom t o
from_same s t o same f = record { joining = f.joining; last = f.last; doc_is = f.doc_is ∙ sym same.doc_is; user_is = f.user_is ∙ sym same.user_is; track_is = f.track_is ∙ sym same.track_is; source_is = f.source_is ∙ sym same.source_is }

abbrev IsFromIfAlive : Client → Option Joining → Type 0
IsFromIfAlive s o = is_alive s.state ≡ true → IsFrom s o

from_act : (c : ℕ) (h : List Entry) (seat : ℕ) (a : Act) → IsAllowed h seat a → IsFromIfAlive (client c h) (last_joining c h) → IsFromIfAlive (client_by c h a (client c h)) (joining_by c a (last_joining c h))
from_act c h seat (JoinedAct k doc user track None source v) may was = go (eqb k c)
  where
    go : (b : Bool) → IsFromIfAlive (if b then joined_by (client c h) h doc user track None source v else client c h) (if b then Some (record { doc = doc; user = user; track = track; source = source }) else last_joining c h)
    go true lives = record { joining = record { doc = doc; user = user; track = track; source = source }; last = refl; doc_is = refl; user_is = refl; track_is = refl; source_is = refl }
    go false lives = was lives
from_act c h seat (JoinedAct k doc user track (Some n) source v) may was = go (eqb k c) refl
  where
    s : Client
    s = client c h

    t : Client
    t = caught_up s (items_between doc n v h)

    same : IsSamePlace s t
    same = same_caught s (items_between doc n v h)

    back : (b : Bool) → is_alive t.state ≡ b → k ≡ c → IsFromIfAlive (if b then record t { state = Joined; source = source } else t) (Some (record { doc = doc; user = user; track = track; source = source }))
    back true was_alive is lives = record {
      joining = record { doc = doc; user = user; track = track; source = source };
      last = refl;
      doc_is = sym may.doc_is ∙ ap (λ i. (client i h).doc) is ∙ sym same.doc_is;
      user_is = sym may.user_is ∙ ap (λ i. (client i h).user) is ∙ sym same.user_is;
      track_is = sym may.track_is ∙ ap (λ i. (client i h).track) is ∙ sym same.track_is;
      source_is = refl;
    }
    back false was_gone is lives = absurd (true≢false (sym lives ∙ was_gone))

    go : (b : Bool) → eqb k c ≡ b → IsFromIfAlive (if b then joined_by s h doc user track (Some n) source v else s) (if b then Some (record { doc = doc; user = user; track = track; source = source }) else last_joining c h)
    go true is = back (is_alive t.state) refl (eqb-true k c is)
    go false apart = was
from_act c h seat (Edited k comp) may was = go (eqb k c)
  where
    go : (b : Bool) → IsFromIfAlive (if b then edited_by (client c h) comp else client c h) (last_joining c h)
    go true lives = let f = was lives in record { joining = f.joining; last = f.last; doc_is = f.doc_is; user_is = f.user_is; track_is = f.track_is; source_is = f.source_is }
    go false lives = was lives
from_act c h seat (Sent u) may was = go (is_of c u.client) (client c h).flight
  where
    go : (b : Bool) (f : Option (List Comp)) → IsFromIfAlive (if b then sent_by (client c h) f else client c h) (last_joining c h)
    go true None lives = let f = was lives in record { joining = f.joining; last = f.last; doc_is = f.doc_is; user_is = f.user_is; track_is = f.track_is; source_is = f.source_is }
    go true (Some g) lives = let f = was lives in record { joining = f.joining; last = f.last; doc_is = f.doc_is; user_is = f.user_is; track_is = f.track_is; source_is = f.source_is }
    go false f lives = was lives
from_act c h seat (Got k brief) may was = go (eqb k c) (mail c h)
  where
    go : (b : Bool) (ms : List Msg) → IsFromIfAlive (if b then got_by (client c h) ms else client c h) (last_joining c h)
    go true [] lives = was lives
    go true (m ∷ ms) lives = from_same (client c h) (delivered (client c h) m) (last_joining c h) (same_delivered (client c h) m) (was (delivered_alive (client c h) m lives))
    go false ms lives = was lives
from_act c h seat (LeftAct k) may was = go (eqb k c) (is_alive (client c h).state) refl
  where
    go : (b a : Bool) → is_alive (client c h).state ≡ a → IsFromIfAlive (if b then (if a then record (client c h) { state = Left } else client c h) else client c h) (last_joining c h)
    go true true is lives = let f = was is in record { joining = f.joining; last = f.last; doc_is = f.doc_is; user_is = f.user_is; track_is = f.track_is; source_is = f.source_is }
    go true false is lives = was lives
    go false a is lives = was lives
from_act c h seat _ may was = was

client_from : (c : ℕ) (j : List Entry) → IsLegal j → IsFromIfAlive (client c j) (last_joining c j)
client_from c = rules.by_last (λ j. IsFromIfAlive (client c j) (last_joining c j)) none more
  where
    none : IsFromIfAlive (client c []) (last_joining c [])
    none lives = absurd (true≢false (sym lives ∙ ap (λ (s : Client). is_alive s.state) (client-none c)))

    more : rules.Keeps (λ j. IsFromIfAlive (client c j) (last_joining c j))
    more h e legal may was =
        subst (λ (s : Client). IsFromIfAlive s (last_joining c (h ++ e ∷ []))) (sym (client-push c h e))
        (subst (λ (o : Option Joining). IsFromIfAlive (client_by c h e.act (client c h)) o) (sym (last_joining-push c h e)) (from_act c h e.seat e.act may was))

-- so what binds a client over every keeper holds of it
pub client_placed : (c : ℕ) (j : List Entry) → IsLegal j → is_alive (client c j).state ≡ true → IsAsJoined j c (client c j).doc (client c j).user (client c j).track (client c j).source (client c j).version
client_placed c j legal lives =
    let f = client_from c j legal lives in
    let sh : Shows c j (client c j) = shows c j legal lives in
    record { joining = f.joining; last = f.last; doc_is = f.doc_is; user_is = f.user_is; track_is = f.track_is; source_is = f.source_is; low = sh.low; high = sh.high }

-- ---- what a client sends
sent_but : (h : List Entry) (c : ℕ) (u : Update) → IsLegal h → IsSending h u (Some c) → IsClientUpdate h c u
sent_but h c u legal sends = by is.1
  where
    s : Client
    s = client c h

    is : (s.state ≡ Joined) × Sends c s (clock h) u
    is = sending_is c s (clock h) u sends

    lives : is_alive s.state ≡ true
    lives = joined_alive s.state is.0

    sized : AreSized s.flight s.pending
    sized = client_sized c h legal lives

    by : Sends c s (clock h) u → IsClientUpdate h c u
    by (Fresh none u_is) = subst (IsClientUpdate h c) (sym u_is) (record { placed = client_placed c h legal lives; at_once = refl; sized = sized.waits })
    by (Again f flies u_is) = subst (IsClientUpdate h c) (sym u_is) (record { placed = client_placed c h legal lives; at_once = refl; sized = sized.flies f flies })

-- ---- what is decided
-- the text of a document that was made
record HasText (d : ℕ) (h : List Entry) : Type 0 where
  here : List ℕ
  here_is : text d h ≡ Some here
  short : length here ≤ longest

has_text : (d : ℕ) (h : List Entry) → IsLegal h → IsMade d h → HasText d h
has_text d h legal made =
    let t = cells_of_text h legal d (version d h) made (omega arith) (omega arith) in
    let here : List ℕ = text_of (cells_at d (version d h) h).lives in
    record { here = here; here_is = sym (text_at_version d h) ∙ t.text_is; short = text_short d (version d h) h here legal made t.text_is }

applied_passable : (d ticket v : ℕ) (op : List Comp) (u : Update) (h : List Entry) (t : HasText d h) → IsLegal h → update_at h ticket ≡ Some u → decided h d u ≡ Applied v op → IsPassable op
applied_passable d ticket v op u h t legal named is =
    let it : Decided d h u v op = decided_applies d h u v op is in
    let sized = sizes.update_sized ticket u h legal named in
    let n : NoLarger u.op (new_units_of_all (ops it.since)) op = given_at (NoLarger u.op (new_units_of_all (ops it.since))) (through u.op (ops it.since)) op it.passing.is (through_no_larger u.op (ops it.since)) in
    let l0 = sized.light.units in let l1 = sized.light.comments in let n0 = n.units in let n1 = n.comments in
    let light : IsLight op = record { units = omega (arith, l0, n0); comments = omega (arith, l1, n1) } in
    let same : Some it.here ≡ Some t.here = sym it.here_is ∙ t.here_is in
    let length_is : length it.here ≡ length t.here = ap length (let x : it.here ≡ t.here = cc in x) in
    let short = t.short in
    record { light = light; near = near_enough it.here it.to op (omega (arith, length_is, short)) light it.to_is }

decision_but : (d ticket : ℕ) (outcome : Outcome) (h : List Entry) → IsLegal h → IsMade d h → IsDecision h d ticket outcome → IsDecisionBut h d ticket outcome
decision_but d ticket outcome h legal made is = record {
  update = is.update;
  named = is.named;
  cached_is = is.cached_is;
  text = t.here;
  short = t.short;
  outcome_is = is.outcome_is ∙ ap (λ o. decided_of (base d h) (version d h) o is.update (passed_since d is.update.v h)) t.here_is;
  passable = by outcome (sym is.outcome_is);
}
  where
    t : HasText d h
    t = has_text d h legal made

    by : (o : Outcome) → decided h d is.update ≡ o → AppliesPassable o
    by (Applied v op) at = applied_passable d ticket v op is.update h t legal is.named at
    by (Dup v) at = tt
    by (Refused cause) at = tt

outcome_but : (d token ticket : ℕ) (outcome : Outcome) (h : List Entry) → IsLegal h → IsMade d h → IsOutcome h d token ticket outcome → IsOutcomeBut h d token ticket outcome
outcome_but d token ticket outcome h legal made (inl is) = inl (decision_but d ticket outcome h legal made is)
outcome_but d token ticket outcome h legal made (inr other) = inr other

-- ---- whys
why_but : (h : List Entry) (seat c : ℕ) (why : Why) → IsLegal h → IsWhy h seat c why → IsWhyBut h seat c why
why_but h seat c NotJoined legal is = tt
why_but h seat c NotLeft legal is = tt
why_but h seat c (TooOld have) legal is =
    let from = client_placed c h legal (ap is_alive is.left) in
    record {
      joining = from.joining;
      last = from.last;
      have_is = is.have_is ∙ ap (λ d. version d h) (sym from.doc_is);
      since = (client c h).version;
      low = subst (λ d. base d h ≤ (client c h).version) (sym from.doc_is) from.low;
      too_old = is.too_old;
    }
why_but h seat c (PastEnd len) legal is = tt
why_but h seat c (Full comps units) legal is = is.full
why_but h seat c InFlight legal is = tt
why_but h seat c _ legal is = is

-- ---- the rows
pub allowed_but : (h : List Entry) (seat : ℕ) (a : Act) → IsLegal h → IsAllowed h seat a → IsAllowedBut h seat a
allowed_but h seat (JoinedAct c doc user track None source v) legal may = may
allowed_but h seat (JoinedAct c doc user track (Some n) source v) legal may =
    let from = client_placed c h legal (ap is_alive may.left) in
    record {
      was = (client c h).source;
      placed = record {
        joining = from.joining;
        last = from.last;
        doc_is = from.doc_is ∙ may.doc_is;
        user_is = from.user_is ∙ may.user_is;
        track_is = from.track_is ∙ may.track_is;
        source_is = from.source_is;
        low = subst (λ m. base doc h ≤ m) may.since_is (subst (λ d. base d h ≤ (client c h).version) may.doc_is from.low);
        high = subst (λ m. m ≤ version doc h) may.since_is (subst (λ d. (client c h).version ≤ version d h) may.doc_is from.high);
      };
      recent = may.recent;
      v_is = may.v_is;
      source_is = may.source_is;
    }
allowed_but h seat (Edited c comp) legal may = may.solid
allowed_but h seat (Sent u) legal may = by u.client may
  where
    by : (o : Option ℕ) → IsSending h u o → IsSendingBut h u o
    by None row = row
    by (Some c) row = sent_but h c u legal row
allowed_but h seat (LeftAct c) legal may = tt
allowed_but h seat (Committed doc token ticket outcome) legal may = record {
  holds = may.holds;
  unused = may.unused;
  rest = may.rest;
  first = may.first;
  ends = outcome_but doc token ticket outcome h legal (fencing.acquired_made doc h legal may.holds.acquiring may.holds.held.last) may.ends;
}
allowed_but h seat (Declined session why) legal may = why_but h seat session why legal may
allowed_but h seat _ legal may = may

-- the law
pub legal_but : (j : List Entry) → IsLegal j → IsLegalBut j
legal_but = rules.by_last IsLegalBut (λ i e at. absurd (cc)) more
  where
    more : rules.Keeps IsLegalBut
    more h e legal may was = legal_push h e was (allowed_but h e.seat e.act legal may)
