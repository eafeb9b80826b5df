-- A client stays as it joined last: whatever it is given, its document, user, track and source are the same, and its version stays within its document's.
use Rattle.std.proofs.Common.{◌≡◌, ℕ, ◌+◌, ◌<◌, ◌≤◌, List, [], ◌∷◌, ◌++◌, length, Bool, true, false, ◌&&◌, refl, sym, ap, ◌∙◌, subst, arith, eqb, eq-eqb, true≢false}
use Rattle.std.specs.Prelude.{Option, Some, None, if◌then◌else◌, nat_lt}
use Rattle.std.proofs.lemmas.Bool.{eqb-true}
use Rattle.ot_op.specs.declared.comp.Comp.{Comp}
use Rattle.journal_entries.specs.declared.message.Msg.{Msg}
use Rattle.journal_entries.specs.declared.message.Msg.TheVariants.{Op, Ack, Error}
use Rattle.journal_entries.specs.declared.act.Act.TheVariants.{Joined as JoinedAct}
use Rattle.journal_entries.specs.declared.act.Entry.{Entry}
use Rattle.journal_rules.specs.declared.state.ClientState.TheVariants.{Joined, Left}
use Rattle.journal_rules.specs.Documents.{IsMade, base, version, is_in}
use Rattle.journal_rules.specs.Client.{Client, Shift, back_under, bounded, delivered, edited_by, flight_fits, given, has_flight, is_alive, joined_anew, landed, left_by, longest_text, places_fit, sent_by, shifted, shifted_to, stale}
use Rattle.journal_rules.proofs.Growing.{base-push}
use Rattle.loading_rules.specs.Joinings.{joining_by, last_joining, IsAsJoined, IsPlaced}
use Rattle.loading_rules.specs.LegalBut.{IsLegalBut}
use Rattle.loading_rules.proofs.Joinings.{last_joining-push, joining_made}
use Rattle.loading_rules.proofs.Posted.{version_grows}

-- ---- what becomes of a client
-- its place is the same, and its version goes on to no more than n
pub record StaysPut (n : ℕ) (s t : Client) : Type 0 where
  pub doc_is : t.doc ≡ s.doc
  pub user_is : t.user ≡ s.user
  pub track_is : t.track ≡ s.track
  pub source_is : t.source ≡ s.source
  pub low : s.version ≤ t.version
  pub high : s.version ≤ n → t.version ≤ n

put_same : (n : ℕ) (s : Client) → StaysPut n s s
put_same n s = record { doc_is = refl; user_is = refl; track_is = refl; source_is = refl; low = omega arith; high = λ le. le }

put_stale : (n : ℕ) (s : Client) → StaysPut n s (stale s)
put_stale n s = record { doc_is = refl; user_is = refl; track_is = refl; source_is = refl; low = omega arith; high = λ le. le }

put_bounded : (n : ℕ) (s t : Client) → StaysPut n s t → StaysPut n s (bounded t)
put_bounded n s t put = go (nat_lt longest_text (length t.text))
  where
    go : (b : Bool) → StaysPut n s (if b then stale t else t)
    go true = record { doc_is = put.doc_is; user_is = put.user_is; track_is = put.track_is; source_is = put.source_is; low = put.low; high = put.high }
    go false = put

put_next : (n : ℕ) (s : Client) (flight : Option (List Comp)) (pending : List Comp) (text sources : List ℕ) → s.version < n → StaysPut n s (record s { flight = flight; pending = pending; text = text; sources = sources; version = s.version + 1 })
put_next n s flight pending text sources lt = record { doc_is = refl; user_is = refl; track_is = refl; source_is = refl; low = omega arith; high = λ le. omega (arith, lt) }

put_landed : (n : ℕ) (s : Client) → s.version < n → StaysPut n s (landed s)
put_landed n s lt = put_bounded n s (record s { flight = None; sources = []; version = s.version + 1 }) (record { doc_is = refl; user_is = refl; track_is = refl; source_is = refl; low = omega arith; high = λ le. omega (arith, lt) })

put_shifted : (n : ℕ) (s : Client) (o : Option Shift) → s.version < n → StaysPut n s (shifted_to s o)
put_shifted n s None lt = put_stale n s
put_shifted n s (Some x) lt = go (flight_fits x.flight && places_fit x.pending)
  where
    t : Client
    t = record s { flight = x.flight; pending = x.pending; text = x.text; version = s.version + 1 }

    go : (b : Bool) → StaysPut n s (if b then bounded t else stale s)
    go true = put_bounded n s t (record { doc_is = refl; user_is = refl; track_is = refl; source_is = refl; low = omega arith; high = λ le. omega (arith, lt) })
    go false = put_stale n s

-- an operation of the client's version, of which its document has gone on
abbrev pub IsBelow : ℕ → Msg → Type 0
IsBelow n (Op v op source) = v < n
IsBelow n (Ack v number) = v < n
IsBelow n (Error number cause) = Unit {0}

put_given : (n : ℕ) (s : Client) (m : Msg) → IsBelow n m → StaysPut n s (given s m)
put_given n s (Op v op source) below = go (eqb v s.version) refl (has_flight s.flight && is_in source s.sources)
  where
    go : (b : Bool) → eqb v s.version ≡ b → (c : Bool) → StaysPut n s (if b then (if c then landed s else shifted_to s (shifted s.flight s.pending s.text op)) else s)
    go true same true = let is = eqb-true v s.version same in put_landed n s (omega (arith, is, below))
    go true same false = let is = eqb-true v s.version same in put_shifted n s (shifted s.flight s.pending s.text op) (omega (arith, is, below))
    go false apart c = put_same n s
put_given n s (Ack v number) below = go (eqb v s.version) refl (has_flight s.flight)
  where
    go : (b : Bool) → eqb v s.version ≡ b → (c : Bool) → StaysPut n s (if b && c then landed s else s)
    go true same true = let is = eqb-true v s.version same in put_landed n s (omega (arith, is, below))
    go true same false = put_same n s
    go false apart c = put_same n s
put_given n s (Error number cause) below = go (has_flight s.flight && eqb number s.number)
  where
    go : (b : Bool) → StaysPut n s (if b then stale s else s)
    go true = put_stale n s
    go false = put_same n s

pub put_delivered : (n : ℕ) (s : Client) (m : Msg) → IsBelow n m → StaysPut n s (delivered s m)
put_delivered n s m below = go (is_alive s.state)
  where
    go : (b : Bool) → StaysPut n s (if b then given s m else s)
    go true = put_given n s m below
    go false = put_same n s

-- ---- the journal goes on
pub as_joined_on : (j : List Entry) (e : Entry) (c doc : ℕ) (user : List ℕ) (track : Bool) (source v : ℕ) → IsLegalBut j → joining_by c e.act (last_joining c j) ≡ last_joining c j
    → IsAsJoined j c doc user track source v → IsAsJoined (j ++ e ∷ []) c doc user track source v
as_joined_on j e c doc user track source v legal same is =
    let made : IsMade doc j = subst (λ d. IsMade d j) is.doc_is (joining_made c j legal is.joining is.last) in
    let b = base-push doc j e made in
    let grows = version_grows doc j e legal in
    let low = is.low in
    let high = is.high in
    record {
      joining = is.joining;
      last = last_joining-push c j e ∙ same ∙ is.last;
      doc_is = is.doc_is;
      user_is = is.user_is;
      track_is = is.track_is;
      source_is = is.source_is;
      low = omega (arith, b, low);
      high = omega (arith, grows, high);
    }

-- a client that isn't told of an entry, which is no joining of its own
pub placed_on : (j : List Entry) (e : Entry) (c : ℕ) (s : Client) → IsLegalBut j → joining_by c e.act (last_joining c j) ≡ last_joining c j → IsPlaced j c s → IsPlaced (j ++ e ∷ []) c s
placed_on j e c s legal same is lives = as_joined_on j e c s.doc s.user s.track s.source s.version legal same (is lives)

-- one that stays put within its document
pub as_joined_put : (j : List Entry) (c : ℕ) (s t : Client) → StaysPut (version s.doc j) s t → IsAsJoined j c s.doc s.user s.track s.source s.version → IsAsJoined j c t.doc t.user t.track t.source t.version
as_joined_put j c s t put is = record {
  joining = is.joining;
  last = is.last;
  doc_is = is.doc_is ∙ sym put.doc_is;
  user_is = is.user_is ∙ sym put.user_is;
  track_is = is.track_is ∙ sym put.track_is;
  source_is = is.source_is ∙ sym put.source_is;
  low = subst (λ d. base d j ≤ t.version) (sym put.doc_is) (let l = is.low in let p = put.low in omega (arith, l, p));
  high = subst (λ d. t.version ≤ version d j) (sym put.doc_is) (put.high is.high);
}

-- ---- what its calls make of it
pub placed_edited : (j : List Entry) (c : ℕ) (s : Client) (comp : Comp) → IsPlaced j c s → IsPlaced j c (edited_by s comp)
placed_edited j c s comp is lives = as_joined_put j c s (edited_by s comp) (record { doc_is = refl; user_is = refl; track_is = refl; source_is = refl; low = omega arith; high = λ le. le }) (is lives)

pub placed_sent : (j : List Entry) (c : ℕ) (s : Client) (flight : Option (List Comp)) → IsPlaced j c s → IsPlaced j c (sent_by s flight)
placed_sent j c s None is lives = as_joined_put j c s (sent_by s None) (record { doc_is = refl; user_is = refl; track_is = refl; source_is = refl; low = omega arith; high = λ le. le }) (is lives)
placed_sent j c s (Some f) is lives = as_joined_put j c s (sent_by s (Some f)) (record { doc_is = refl; user_is = refl; track_is = refl; source_is = refl; low = omega arith; high = λ le. le }) (is lives)

pub placed_left : (j : List Entry) (c : ℕ) (s : Client) → IsPlaced j c s → IsPlaced j c (left_by s)
placed_left j c s is = go (is_alive s.state) refl
  where
    go : (b : Bool) → is_alive s.state ≡ b → IsPlaced j c (if b then record s { state = Left } else s)
    go true was lives = as_joined_put j c s (record s { state = Left }) (record { doc_is = refl; user_is = refl; track_is = refl; source_is = refl; low = omega arith; high = λ le. le }) (is was)
    go false was lives = absurd (true≢false (sym lives ∙ was))

pub placed_anew : (j : List Entry) (e : Entry) (c doc : ℕ) (user : List ℕ) (track : Bool) (since : Option ℕ) (source v : ℕ) (s : Client) (text : List ℕ) → IsLegalBut j → IsMade doc j → e.act ≡ JoinedAct c doc user track since source v → v ≡ version doc j
    → IsPlaced (j ++ e ∷ []) c (joined_anew s doc user track source v text)
placed_anew j e c doc user track since source v s text legal made is v_is lives =
    let b = base-push doc j e made in
    let grows = version_grows doc j e legal in
    record {
      joining = record { doc = doc; user = user; track = track; source = source };
      last = last_joining-push c j e ∙ ap (λ a. joining_by c a (last_joining c j)) is ∙ ap (λ x. if x then Some (record { doc = doc; user = user; track = track; source = source }) else last_joining c j) (eq-eqb c c refl);
      doc_is = refl;
      user_is = refl;
      track_is = refl;
      source_is = refl;
      low = omega (arith, b, v_is);
      high = omega (arith, grows, v_is);
    }

-- one that comes back, having been told of what it missed
pub placed_back : (j : List Entry) (e : Entry) (c : ℕ) (since : Option ℕ) (source v : ℕ) (s t : Client) → IsLegalBut j → e.act ≡ JoinedAct c s.doc s.user s.track since source v → IsAsJoined j c s.doc s.user s.track s.source s.version → StaysPut (version s.doc j) s t
    → IsPlaced (j ++ e ∷ []) c (back_under source t)
placed_back j e c since source v s t legal is from put = go (is_alive t.state) refl
  where
    made : IsMade s.doc j
    made = subst (λ d. IsMade d j) from.doc_is (joining_made c j legal from.joining from.last)

    go : (b : Bool) → is_alive t.state ≡ b → IsPlaced (j ++ e ∷ []) c (if b then record t { state = Joined; source = source } else t)
    go true was lives =
        let b = base-push s.doc j e made in
        let grows = version_grows s.doc j e legal in
        let low = from.low in
        let on = put.low in
        let high = put.high from.high in
        record {
          joining = record { doc = s.doc; user = s.user; track = s.track; source = source };
          last = last_joining-push c j e ∙ ap (λ a. joining_by c a (last_joining c j)) is ∙ ap (λ x. if x then Some (record { doc = s.doc; user = s.user; track = s.track; source = source }) else last_joining c j) (eq-eqb c c refl);
          doc_is = sym put.doc_is;
          user_is = sym put.user_is;
          track_is = sym put.track_is;
          source_is = refl;
          low = subst (λ d. base d (j ++ e ∷ []) ≤ t.version) (sym put.doc_is) (omega (arith, b, low, on));
          high = subst (λ d. t.version ≤ version d (j ++ e ∷ [])) (sym put.doc_is) (omega (arith, grows, high));
        }
    go false was lives = absurd (true≢false (sym lives ∙ was))
