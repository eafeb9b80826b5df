-- What is true of a client that is joined or left, and what an item makes of it.
use Rattle.std.proofs.Common.{◌≡◌, ◌≢◌, ◌⊎◌, ℕ, ◌+◌, ◌-◌, ◌<◌, ◌≤◌, List, [], ◌∷◌, ◌++◌, length, true, refl, sym, ap, ◌∙◌, arith}
use Rattle.std.specs.Prelude.{Option, Some, None, slice_get, if◌then◌else◌, option_map, ◌==◌}
use Rattle.std.specs.Option.{option_and_then}
use Rattle.ot_op.specs.declared.comp.Comp.{Comp}
use Rattle.ot_op.specs.Apply.{applied_all}
use Rattle.ot_transform.specs.Crossing.{crossed}
use Rattle.ot_transform.proofs.Converging.{Meets}
use Rattle.ot_transform.proofs.Cases.{convergence}
use Rattle.journal_entries.specs.declared.update.Update.{Update}
use Rattle.journal_entries.specs.declared.act.Act.{Act}
use Rattle.journal_entries.specs.declared.act.Act.TheVariants.{Joined as JoinedAct}
use Rattle.journal_entries.specs.declared.act.Entry.{Entry}
use Rattle.journal_rules.specs.Folds.{folded}
use Rattle.journal_rules.specs.Documents.{Item, applied_list, base, first, replayed, update_at, is_in, waiting}
use Rattle.ot_transform.specs.Crossing.{through}
use Rattle.journal_rules.specs.Deciding.{longest}
use Rattle.journal_rules.specs.Client.{Client, Shift, shifted, has_flight, flight_crossed}
use Rattle.journal_rules.specs.Documents.{IsMade}
pub use Rattle.journal_laws.specs.Once.{IsCopy}
pub use Rattle.journal_laws.specs.ClientLaw.{flown}
use Rattle.journal_rules.proofs.Pushing.{folded-push}
use Rattle.journal_rules.proofs.Lists.{AllIn, AnyIn, some_same}
use Rattle.journal_rules.proofs.Replaying.{ops, Passes}

-- ---- sources: each is 1,000,000 plus the place of the joining that gave it
abbrev pub joiner_of : Act → Option ℕ
joiner_of (JoinedAct client doc user track since source v) = Some client
joiner_of _ = None

abbrev pub joiner_in : Option Entry → Option ℕ
joiner_in (Some e) = joiner_of e.act
joiner_in None = None

abbrev pub Mine : ℕ → List Entry → ℕ → Type 0
Mine c j source = (1000000 ≤ source) × (joiner_in (slice_get j (source - 1000000)) ≡ Some c)

abbrev pub OwnedBy : List Entry → Option ℕ → ℕ → Type 0
OwnedBy j (Some c) source = Mine c j source
OwnedBy j None source = source ≤ 999999

abbrev pub Owned : List Entry → Type 0
Owned j = (t : ℕ) (u : Update) → update_at j t ≡ Some u → OwnedBy j u.client u.source

pub owner_is : (c : ℕ) (j : List Entry) (client : Option ℕ) (source : ℕ) → Mine c j source → OwnedBy j client source → client ≡ Some c
owner_is c j (Some k) source m o = sym o.1 ∙ m.1
owner_is c j None source m o = let l = m.0 in absurd (omega (arith, l, o))

-- the source of the last joining since none
abbrev pub start_by : ℕ → Act → ℕ → ℕ
start_by c (JoinedAct client doc user track None source v) now = if client == c then source else now
start_by c _ now = now

unfoldable pub start : ℕ → List Entry → ℕ
start c j = folded (λ before e now. start_by c e.act now) 0 j

pub start-push : (c : ℕ) (j : List Entry) (e : Entry) → start c (j ++ e ∷ []) ≡ start_by c e.act (start c j)
unfolding start
start-push c j e = folded-push (λ before e now. start_by c e.act now) 0 j e

pub start-none : (c : ℕ) → start c [] ≡ 0
unfolding start
start-none c = refl

-- ---- items
-- an item of a document, with those before it
pub record IsItem (d : ℕ) (j : List Entry) (before : List Item) (x : Item) : Type 0 where
  pub v_is : x.v ≡ base d j + length before
  pub known : update_at j x.ticket ≡ Some x.update
  pub doc_is : x.update.doc ≡ d
  pub past : List Item
  pub since : List Item
  pub cut : before ≡ past ++ since
  pub from : x.update.v ≡ base d j + length past
  pub passing : Passes x.update.dup x.update.op since x.op
  pub here : List ℕ
  pub to : List ℕ
  pub here_is : replayed (first d j) (ops before) ≡ Some here
  pub to_is : applied_all here x.op ≡ Some to
  pub short : length to ≤ longest
  pub low : (t : ℕ) (u : Update) (c : ℕ) → update_at j t ≡ Some u → u.client ≡ Some c → IsCopy c u.number x → u.v ≤ base d j + length before
  pub once : (c : ℕ) → x.update.client ≡ Some c → AllIn (λ y. IsCopy c x.update.number y → ⊥) before
  pub early : AllIn (λ t. x.ticket < t) (waiting d j)

-- ---- a client that is joined or left: it has seen some items of its document, and others are ahead
pub record IsFlying (j : List Entry) (s : Client) (seen : List Item) (u : Update) : Type 0 where
  pub flight : List Comp
  pub flight_is : s.flight ≡ Some flight
  pub number_is : u.number ≡ s.number
  pub doc_is : u.doc ≡ s.doc
  pub under : is_in u.source s.sources ≡ true
  pub past : List Item
  pub since : List Item
  pub cut : seen ≡ past ++ since
  pub from : u.v ≡ base s.doc j + length past
  pub through_is : through u.op (ops since) ≡ Some flight

pub record IsGrounded (c : ℕ) (j : List Entry) (s : Client) (seen : List Item) (u : Update) : Type 0 where
  pub other : has_flight s.flight ≡ true → u.number ≢ s.number
  pub done : start c j ≤ u.source → AnyIn (IsCopy c u.number) seen

pub record IsAlive (c : ℕ) (j : List Entry) (s : Client) (seen ahead : List Item) : Type 0 where
  pub made : IsMade s.doc j
  pub split : applied_list s.doc j ≡ seen ++ ahead
  pub at : s.version ≡ base s.doc j + length seen
  pub here : List ℕ
  pub there : List ℕ
  pub here_is : replayed (first s.doc j) (ops seen) ≡ Some here
  pub flight_is : flown here s.flight ≡ Some there
  pub text_is : applied_all there s.pending ≡ Some s.text
  pub filed : (t : ℕ) (u : Update) → update_at j t ≡ Some u → u.client ≡ Some c → IsFlying j s seen u ⊎ IsGrounded c j s seen u
  pub late : has_flight s.flight ≡ true → AllIn (λ x. IsCopy c s.number x → ⊥) seen
  pub under_mine : (source : ℕ) → is_in source s.sources ≡ true → Mine c j source × (start c j ≤ source)
  pub source_mine : Mine c j s.source × (start c j ≤ s.source)

-- ---- an operation of another, past flight and pending
abbrev pub Flew : Option (List Comp) → List Comp → Option (List Comp) → Type 0
Flew None op to = to ≡ None
Flew (Some f) op to = (g : List Comp) × (other : List Comp) × (crossed f op ≡ Some (g, other)) × (to ≡ Some g)

pub record Shifts (flight : Option (List Comp)) (pending : List Comp) (text : List ℕ) (op : List Comp) (here : List ℕ) : Type 0 where
  pub shift : Shift
  pub is : shifted flight pending text op ≡ Some shift
  pub there : List ℕ
  pub flight_is : flown here shift.flight ≡ Some there
  pub text_is : applied_all there shift.pending ≡ Some shift.text
  pub flew : Flew flight op shift.flight

-- pending past an operation, behind the flight
pending_shifts : (fs : Option (List Comp) × List Comp) (pending : List Comp) (text there to : List ℕ) → applied_all there pending ≡ Some text → applied_all there fs.1 ≡ Some to
    → (s : Shift) × (option_and_then (λ p. option_map (λ t. record { flight = fs.0; pending = p.0; text = t }) (applied_all text p.1)) (crossed pending fs.1) ≡ Some s) × (s.flight ≡ fs.0) × (applied_all to s.pending ≡ Some s.text)
pending_shifts fs pending text there to p o =
    let m : Meets (crossed pending fs.1) text to = convergence there text to pending fs.1 p o in
    let s : Shift = record { flight = fs.0; pending = m.both.0; text = m.to } in
    let one : option_map (λ (t : List ℕ). let x : Shift = record { flight = fs.0; pending = m.both.0; text = t } in x) (applied_all text m.both.1) ≡ Some s = ap (option_map (λ (t : List ℕ). let x : Shift = record { flight = fs.0; pending = m.both.0; text = t } in x)) m.from_left in
    (s, ap (option_and_then (λ (q : List Comp × List Comp). option_map (λ (t : List ℕ). let x : Shift = record { flight = fs.0; pending = q.0; text = t } in x) (applied_all text q.1))) m.is ∙ one, refl, m.from_right)

pub shifts : (flight : Option (List Comp)) (pending : List Comp) (text : List ℕ) (op : List Comp) (here there next : List ℕ) → flown here flight ≡ Some there → applied_all there pending ≡ Some text → applied_all here op ≡ Some next → Shifts flight pending text op next
shifts None pending text op here there next f p o =
    let same : here ≡ there = some_same here there f in
    let r = pending_shifts (None, op) pending text there next p (ap (λ (x : List ℕ). applied_all x op) (sym same) ∙ o) in
    record { shift = r.0; is = r.1; there = next; flight_is = ap (flown next) r.2; text_is = r.3; flew = r.2 }
shifts (Some flight) pending text op here there next f p o =
    let m : Meets (crossed flight op) there next = convergence here there next flight op f o in
    let r = pending_shifts (Some m.both.0, m.both.1) pending text there m.to p m.from_left in
    let crossing : flight_crossed (Some flight) op ≡ Some (Some m.both.0, m.both.1) = ap (option_map (λ (both : List Comp × List Comp). let x : Option (List Comp) × List Comp = (Some both.0, both.1) in x)) m.is in
    record {
      shift = r.0;
      is = ap (option_and_then (λ (f : Option (List Comp) × List Comp). option_and_then (λ (p : List Comp × List Comp). option_map (λ (t : List ℕ). let x : Shift = record { flight = f.0; pending = p.0; text = t } in x) (applied_all text p.1)) (crossed pending f.1))) crossing ∙ r.1;
      there = m.to;
      flight_is = ap (flown next) r.2 ∙ m.from_right;
      text_is = r.3;
      flew = (m.both.0, m.both.1, m.is, r.2);
    }
