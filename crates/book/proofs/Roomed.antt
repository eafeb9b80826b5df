-- The clients in the rooms of a book after one entry more.
use Rattle.std.proofs.Common.{◌≡◌, ◌≢◌, ◌⊎◌, inl, inr, ℕ, ◌+◌, ◌≤◌, List, [], ◌∷◌, ◌++◌, length, drop, Bool, true, false, ◌&&◌, refl, sym, ap, ap₂, ◌∙◌, subst, arith, eqb, length-append}
use Rattle.std.specs.Prelude.{slice_get, Option, Some, None, is_some, option_map, if◌then◌else◌}
use Rattle.std.proofs.lemmas.Bool.Decides.{eqb_tells}
use Rattle.rooms.specs.Rooms.{Membership, Roomed, AreRoomier, AreTold, HaveRoom, first_posted, Joins, Moves, Pops, member, posted, posted_in, without_first as rest_of}
use Rattle.journal_entries.specs.declared.update.Update.{Update}
use Rattle.journal_entries.specs.declared.update.Outcome.{Outcome}
use Rattle.journal_entries.specs.declared.update.Outcome.TheVariants.{Applied, Dup, Refused}
use Rattle.journal_entries.specs.declared.message.Brief.{Brief}
use Rattle.journal_entries.specs.declared.act.Act.{Act}
use Rattle.journal_entries.specs.declared.act.Act.TheVariants.{Joined as JoinedAct, Sent, Got, Left as LeftAct, Committed}
use Rattle.journal_entries.specs.declared.act.Entry.{Entry}
use Rattle.journal_rules.specs.Client.{is_of}
use Rattle.journal_rules.specs.Documents.{sends, ticket_of, update_at, waiting}
use Rattle.journal_rules.specs.Legal.{IsLegal}
use Rattle.journal_rules.proofs.Waits.{committed_below, one_if, waiting-committed, waiting-committed_other, waiting-more, waits_still}
use Rattle.mail_places.specs.Places.{IsMailIn, LeavesPlaces, Placed, placed, placed_by, placed_in, told_at, placed_of, placed_own, with_place, without_first}
use Rattle.loading_rules.proofs.Weakening.{legal_but}
use Rattle.mail_places.proofs.Placing.{placed-none, placed-push, placed-same}
use Rattle.mail_places.proofs.Sources.{own_update}
use Rattle.mail_places.proofs.Telling.{first_mail, mail_at_places, no_mail}
use Rattle.journal_entries.specs.declared.message.Msg.{Msg}
use Rattle.journal_rules.specs.Mail.{mail}
use Rattle.std.specs.Option.{option_and_then}
use Rattle.mail_places.proofs.Committing.{placed-committed}
use Rattle.book.specs.declared.document.Document.{Document}
use Rattle.book.specs.Standing.{AreDocuments, IsKeptAs, Turns}
use Rattle.project_histories.proofs.Lists.{same_item, set_get}
use Rattle.book.specs.Roomed.{AreRoomed, AreSourced, IsMember, IsThere, posted_by, posted_own}

there_by : (a a' : Option Membership) (b b' : Option Placed) (j : List Entry) → a' ≡ a → b' ≡ b → IsThere a b j → IsThere a' b' j
there_by a a' b b' j is at there = rw (is, at) there

pub roomed_none : (rooms : Roomed) (j : List Entry) → j ≡ [] → ((c : ℕ) → member c rooms ≡ None) → AreRoomed rooms j
roomed_none rooms j empty none c = there_by None (member c rooms) None (placed c j) j (none c) (ap (placed c) empty ∙ placed-none c) tt

pub roomed_same : (rooms : Roomed) (j k : List Entry) → k ≡ j → AreRoomed rooms j → AreRoomed rooms k
roomed_same rooms j k same were = subst (AreRoomed rooms) (sym same) were

-- ---- no more waits than before
there_kept : (a : Option Membership) (b : Option Placed) (j k : List Entry) → ((d : ℕ) → length (waiting d k) ≤ length (waiting d j)) → IsThere a b j → IsThere a b k
there_kept None None j k less is = tt
there_kept (Some m) (Some box) j k less is = record {
  doc_is = is.doc_is;
  source_is = is.source_is;
  outbox_is = is.outbox_is;
  room = let r = is.room in let l = less box.doc in omega (arith, r, l);
}
there_kept None (Some box) j k less is = absurd is
there_kept (Some m) None j k less is = absurd is

pub roomed_quiet : (rooms : Roomed) (j : List Entry) (e : Entry) → IsLegal j → LeavesPlaces e.act → ticket_of e.act ≡ [] → ((d : ℕ) → sends d e.act ≡ false) → AreRoomed rooms j → AreRoomed rooms (j ++ e ∷ [])
roomed_quiet rooms j e legal leaves none unsent were c =
    there_by (member c rooms) (member c rooms) (placed c j) (placed c (j ++ e ∷ [])) (j ++ e ∷ []) refl (placed-same c j e leaves)
    (there_kept (member c rooms) (placed c j) j (j ++ e ∷ []) (λ d. let w = ap length (waits_still d j e legal none (unsent d)) in omega (arith, w)) (were c))

-- by an entry whose act says so
pub roomed_quiet_by : (rooms : Roomed) (j mid k : List Entry) (seat : ℕ) (line : Option ℕ) (act : Act) (e : Entry) → e ≡ record { seat = seat; line = line; act = act } → mid ≡ j → k ≡ mid ++ e ∷ [] → IsLegal j → LeavesPlaces act → ticket_of act ≡ [] → ((d : ℕ) → sends d act ≡ false) → AreRoomed rooms j → AreRoomed rooms k
roomed_quiet_by rooms j mid k seat line act e e_is same more legal leaves none unsent were =
    subst (AreRoomed rooms) (sym (more ∙ ap₂ (λ (l : List Entry) (x : Entry). l ++ x ∷ []) same e_is)) (roomed_quiet rooms j (record { seat = seat; line = line; act = act }) legal leaves none unsent were)

-- ---- room was made
there_roomier : (a a' : Option Membership) (b : Option Placed) (j : List Entry) → AreRoomier a a' → IsThere a b j → IsThere a' b j
there_roomier None a' None j more is = there_by None a' None None j more refl tt
there_roomier (Some m) a' (Some box) j more is = there_by (Some more.0) a' (Some box) (Some box) j more.1 refl (record {
  doc_is = more.2.doc_is ∙ is.doc_is;
  source_is = more.2.source_is ∙ is.source_is;
  outbox_is = more.2.outbox_is ∙ is.outbox_is;
  room = let r = is.room in let l = more.2.spare_is in omega (arith, r, l);
})
there_roomier None a' (Some box) j more is = absurd is
there_roomier (Some m) a' None j more is = absurd is

pub roomed_roomier : (rooms rooms' : Roomed) (j : List Entry) → ((c : ℕ) → AreRoomier (member c rooms) (member c rooms')) → AreRoomed rooms j → AreRoomed rooms' j
roomed_roomier rooms rooms' j more were c = there_roomier (member c rooms) (member c rooms') (placed c j) j (more c) (were c)

-- ---- an update was sent, for which there is room
pub roomed_sent : (rooms : Roomed) (j : List Entry) (e : Entry) (u : Update) → IsLegal j → e.act ≡ Sent u → HaveRoom u.doc (length (waiting u.doc j) + 1) rooms → AreRoomed rooms j → AreRoomed rooms (j ++ e ∷ [])
roomed_sent rooms j e u legal is room were c =
    there_by (member c rooms) (member c rooms) (placed c j) (placed c (j ++ e ∷ [])) (j ++ e ∷ []) refl (placed-same c j e (subst LeavesPlaces (sym is) tt)) (by (member c rooms) refl (placed c j) (were c))
  where
    k : List Entry
    k = j ++ e ∷ []

    waits : (d : ℕ) → waiting d k ≡ waiting d j ++ one_if (sends d e.act) (length j)
    waits d = waiting-more d j e (committed_below j legal) (ap ticket_of is)

    grows : (d : ℕ) (spare : ℕ) → (u.doc ≡ d → length (waiting u.doc j) + 1 ≤ spare) → length (waiting d j) ≤ spare → length (waiting d k) ≤ spare
    grows d spare more enough = by_doc (eqb_tells u.doc d)
      where
        by_doc : ((eqb u.doc d ≡ true) × (u.doc ≡ d)) ⊎ ((eqb u.doc d ≡ false) × (u.doc ≢ d)) → length (waiting d k) ≤ spare
        by_doc (inl t) =
            let w = ap length (waits d) ∙ length-append (waiting d j) (one_if (sends d e.act) (length j)) in
            let o = ap (λ b. length (one_if b (length j))) (ap (sends d) is ∙ t.0) in
            let m = more t.1 in
            let l = ap (λ n. length (waiting n j)) t.1 in
            omega (arith, w, o, m, l)
        by_doc (inr t) = let w = ap length (waits_still d j e legal (ap ticket_of is) (ap (sends d) is ∙ t.0)) in omega (arith, w, enough)

    by : (a : Option Membership) → member c rooms ≡ a → (b : Option Placed) → IsThere a b j → IsThere a b k
    by None at None there = tt
    by (Some m) at (Some box) there = record {
      doc_is = there.doc_is;
      source_is = there.source_is;
      outbox_is = there.outbox_is;
      room = grows box.doc m.spare (λ same. room c m at (there.doc_is ∙ sym same)) there.room;
    }
    by None at (Some box) there = absurd there
    by (Some m) at None there = absurd there

-- the room that was made for an update is that for what waits by the journal, and one more
pub told_room : (rooms : Roomed) (j : List Entry) (documents documents' : List Document) (doc : ℕ) → AreDocuments documents j → Turns doc IsKeptAs documents documents'
    → ((d : Document) → slice_get documents' doc ≡ Some d → HaveRoom doc (length d.waiting.items + 1) rooms) → HaveRoom doc (length (waiting doc j) + 1) rooms
told_room rooms j documents documents' doc were t room =
    subst (λ n. HaveRoom doc (n + 1) rooms) (ap length (t.is.waiting_is ∙ (were.each doc t.was t.at).waiting_is))
    (room t.now (ap (λ l. slice_get l doc) t.set_is ∙ set_get documents doc t.was t.now t.at))

-- ---- a commit is told
-- whoever is in the room of a document for which something waits has room for one place more
pub room_for_one : (rooms : Roomed) (j : List Entry) (doc ticket : ℕ) (rest : List ℕ) → waiting doc j ≡ ticket ∷ rest → AreRoomed rooms j → HaveRoom doc 1 rooms
room_for_one rooms j doc ticket rest waits were c m at own = by (placed c j) (subst (λ a. IsThere a (placed c j) j) at (were c))
  where
    by : (b : Option Placed) → IsThere (Some m) b j → 1 ≤ m.spare
    by None there = absurd there
    by (Some box) there =
        let r = there.room in
        let l = ap length waits in
        let n = ap (λ d. length (waiting d j)) (sym there.doc_is ∙ own) in
        omega (arith, r, l, n)

pub sourced : (rooms : Roomed) (j : List Entry) (ticket : ℕ) (u : Update) → IsLegal j → update_at j ticket ≡ Some u → AreRoomed rooms j → AreSourced rooms u
sourced rooms j ticket u legal named were c m at own = by (placed c j) refl (subst (λ a. IsThere a (placed c j) j) at (were c))
  where
    by : (b : Option Placed) → placed c j ≡ b → IsThere (Some m) b j → m.doc ≡ u.doc
    by None is there = absurd there
    by (Some box) is there = there.doc_is ∙ sym (own_update c j (legal_but j legal) box is ticket u named (sym own ∙ there.source_is)).1

module _ (j : List Entry) (e : Entry) (doc token ticket : ℕ) (outcome : Outcome) (u : Update) (rest : List ℕ) (legal : IsLegal j) (is : e.act ≡ Committed doc token ticket outcome)
    (first : waiting doc j ≡ ticket ∷ rest) (named : update_at j ticket ≡ Some u) (own : u.doc ≡ doc) where
  abbrev k : List Entry
  k = j ++ e ∷ []

  one_less : length (waiting doc k) + 1 ≡ length (waiting doc j)
  one_less = let w = ap length (waiting-committed doc j e ticket rest (ap (sends doc) is) (ap ticket_of is) first) in let f = ap length first in omega (arith, w, f)

  no_more : (d : ℕ) → length (waiting d k) ≤ length (waiting d j)
  no_more d = by (eqb_tells doc d)
    where
      by : ((eqb doc d ≡ true) × (doc ≡ d)) ⊎ ((eqb doc d ≡ false) × (doc ≢ d)) → length (waiting d k) ≤ length (waiting d j)
      by (inl t) = subst (λ n. length (waiting n k) ≤ length (waiting n j)) t.1 (let o = one_less in omega (arith, o))
      by (inr t) = let w = ap length (waiting-committed_other d doc j e ticket rest (λ h. t.1 (sym h)) (ap (sends d) is) (ap ticket_of is) first) in omega (arith, w)

  -- told of it, or not
  told : (m : Membership) (box : Placed) → box.doc ≡ doc → IsMember m box j → IsMember (posted (length j) m) (with_place (length j) box) k
  told m box here there = record {
    doc_is = there.doc_is;
    source_is = there.source_is;
    outbox_is = ap (λ l. l ++ length j ∷ []) there.outbox_is;
    room = let r = there.room in let o = one_less in let s = ap (λ d. length (waiting d k)) here in let t = ap (λ d. length (waiting d j)) here in omega (arith, r, o, s, t);
  }

  untold : (m : Membership) (box : Placed) → IsMember m box j → IsMember m box k
  untold m box there = there_kept (Some m) (Some box) j k no_more there

  told_if : (b : Bool) (m : Membership) (box : Placed) → (b ≡ true → box.doc ≡ doc) → IsMember m box j → IsMember (if b then posted (length j) m else m) (if b then with_place (length j) box else box) k
  told_if true m box here there = told m box (here refl) there
  told_if false m box here there = untold m box there

  eqb_true : (m n : ℕ) → eqb m n ≡ true → m ≡ n
  eqb_true m n is = by (eqb_tells m n)
    where
      by : ((eqb m n ≡ true) × (m ≡ n)) ⊎ ((eqb m n ≡ false) × (m ≢ n)) → m ≡ n
      by (inl t) = t.1
      by (inr t) = let f : true ≡ false = sym is ∙ t.0 in absurd (cc)

  in_room : (m : Membership) (box : Placed) → IsMember m box j → IsMember (posted_in u.doc (length j) m) (placed_in u.doc (length j) box) k
  in_room m box there =
      rw (ap (λ d. eqb d u.doc) there.doc_is)
      (told_if (eqb box.doc u.doc) m box (λ same. eqb_true box.doc u.doc same ∙ own) there)

  its_own : (c : ℕ) (m : Membership) (box : Placed) → placed c j ≡ Some box → IsMember m box j → IsMember (posted_own c u (length j) m) (placed_own c u (length j) box) k
  its_own c m box at there =
      rw (ap (λ s. eqb s u.source) there.source_is)
      (told_if (is_of c u.client && eqb box.source u.source) m box (λ same. sym (own_update c j (legal_but j legal) box at ticket u named (sym (eqb_true box.source u.source (second (is_of c u.client) (eqb box.source u.source) same)))).1 ∙ own) there)
    where
      second : (a b : Bool) → (a && b) ≡ true → b ≡ true
      second true b is = is
      second false b is = absurd (cc)

  by_outcome : (o : Outcome) (c : ℕ) (m : Membership) (box : Placed) → placed c j ≡ Some box → IsMember m box j → IsMember (posted_by c u (length j) o m) (placed_of c u (length j) o box) k
  by_outcome (Applied v op) c m box at there = in_room m box there
  by_outcome (Dup v) c m box at there = its_own c m box at there
  by_outcome (Refused cause) c m box at there = its_own c m box at there

  all_told : (c : ℕ) (a : Option Membership) (b : Option Placed) → placed c j ≡ b → IsThere a b j → IsThere (option_map (posted_by c u (length j) outcome) a) (option_map (placed_of c u (length j) outcome) b) k
  all_told c None None at there = tt
  all_told c (Some m) (Some box) at there = by_outcome outcome c m box at there
  all_told c None (Some box) at there = absurd there
  all_told c (Some m) None at there = absurd there

  committed : (rooms rooms' : Roomed) → IsLegal (j ++ e ∷ []) → ((c : ℕ) → member c rooms' ≡ option_map (posted_by c u (length j) outcome) (member c rooms)) → AreRoomed rooms j → AreRoomed rooms' (j ++ e ∷ [])
  committed rooms rooms' grown posts were c =
      there_by (option_map (posted_by c u (length j) outcome) (member c rooms)) (member c rooms') (option_map (placed_of c u (length j) outcome) (placed c j)) (placed c k) k (posts c)
      (placed-committed c j e doc token ticket outcome u (legal_but (j ++ e ∷ []) grown) is named)
      (all_told c (member c rooms) (placed c j) refl (were c))

  pub roomed_committed : (rooms rooms' : Roomed) (after : List Entry) → after ≡ j ++ e ∷ [] → IsLegal after → ((c : ℕ) → member c rooms' ≡ option_map (posted_by c u (length j) outcome) (member c rooms)) → AreRoomed rooms j → AreRoomed rooms' after
  roomed_committed rooms rooms' after more grown posts were = subst (AreRoomed rooms') (sym more) (committed rooms rooms' (subst IsLegal more grown) posts were)

-- ---- a client joins
pub roomed_joined : (rooms rooms' : Roomed) (j : List Entry) (e : Entry) (client doc v source room : ℕ) (user : List ℕ) (track : Bool) (since : Option ℕ) → IsLegal j → e.act ≡ JoinedAct client doc user track since source v → length (waiting doc j) ≤ room
    → Joins client doc source room rooms rooms' → AreRoomed rooms j → AreRoomed rooms' (j ++ e ∷ [])
roomed_joined rooms rooms' j e client doc v source room user track since legal is enough joins were c = by (eqb_tells client c)
  where
    k : List Entry
    k = j ++ e ∷ []

    less : (d : ℕ) → length (waiting d k) ≤ length (waiting d j)
    less d = let w = ap length (waits_still d j e legal (ap ticket_of is) (ap (sends d) is)) in omega (arith, w)

    next : placed c k ≡ (if eqb client c then Some (record { doc = doc; source = source; places = [] }) else placed c j)
    next = placed-push c j e ∙ ap (λ a. placed_by c j a (placed c j)) is

    by : ((eqb client c ≡ true) × (client ≡ c)) ⊎ ((eqb client c ≡ false) × (client ≢ c)) → IsThere (member c rooms') (placed c k) k
    by (inl t) =
        there_by (Some (record { doc = doc; source = source; outbox = []; spare = joins.0 })) (member c rooms') (Some (record { doc = doc; source = source; places = [] })) (placed c k) k
        (ap (λ n. member n rooms') (sym t.1) ∙ joins.2.changed) (next ∙ ap (λ b. if b then Some (record { doc = doc; source = source; places = [] }) else placed c j) t.0)
        (record { doc_is = refl; source_is = refl; outbox_is = refl; room = let l = less doc in let s = joins.1 in omega (arith, l, s, enough) })
    by (inr t) =
        there_by (member c rooms) (member c rooms') (placed c j) (placed c k) k (joins.2.others c (λ h. t.1 (sym h))) (next ∙ ap (λ b. if b then Some (record { doc = doc; source = source; places = [] }) else placed c j) t.0)
        (there_kept (member c rooms) (placed c j) j k less (were c))

-- ---- a client leaves
pub roomed_left : (rooms rooms' : Roomed) (j : List Entry) (e : Entry) (client : ℕ) → IsLegal j → e.act ≡ LeftAct client → Moves client None rooms rooms' → AreRoomed rooms j → AreRoomed rooms' (j ++ e ∷ [])
roomed_left rooms rooms' j e client legal is moves were c = by (eqb_tells client c)
  where
    k : List Entry
    k = j ++ e ∷ []

    less : (d : ℕ) → length (waiting d k) ≤ length (waiting d j)
    less d = let w = ap length (waits_still d j e legal (ap ticket_of is) (ap (sends d) is)) in omega (arith, w)

    next : placed c k ≡ (if eqb client c then None else placed c j)
    next = placed-push c j e ∙ ap (λ a. placed_by c j a (placed c j)) is

    by : ((eqb client c ≡ true) × (client ≡ c)) ⊎ ((eqb client c ≡ false) × (client ≢ c)) → IsThere (member c rooms') (placed c k) k
    by (inl t) =
        there_by None (member c rooms') None (placed c k) k
        (ap (λ n. member n rooms') (sym t.1) ∙ moves.changed) (next ∙ ap (λ b. if b then None else placed c j) t.0) tt
    by (inr t) =
        there_by (member c rooms) (member c rooms') (placed c j) (placed c k) k (moves.others c (λ h. t.1 (sym h))) (next ∙ ap (λ b. if b then None else placed c j) t.0)
        (there_kept (member c rooms) (placed c j) j k less (were c))

-- ---- a client that had left, and was put into a room, is taken out of it again
pub roomed_again : (rooms mid rooms' : Roomed) (j : List Entry) (client doc source room : ℕ) → placed client j ≡ None → Joins client doc source room rooms mid → Moves client None mid rooms' → AreRoomed rooms j → AreRoomed rooms' j
roomed_again rooms mid rooms' j client doc source room gone joins moves were c = by (eqb_tells client c)
  where
    by : ((eqb client c ≡ true) × (client ≡ c)) ⊎ ((eqb client c ≡ false) × (client ≢ c)) → IsThere (member c rooms') (placed c j) j
    by (inl t) = there_by None (member c rooms') None (placed c j) j (ap (λ n. member n rooms') (sym t.1) ∙ moves.changed) (ap (λ n. placed n j) (sym t.1) ∙ gone) tt
    by (inr t) = there_by (member c rooms) (member c rooms') (placed c j) (placed c j) j (moves.others c (λ h. t.1 (sym h)) ∙ joins.2.others c (λ h. t.1 (sym h))) refl (were c)

-- ---- a client gets its first message
rest_is : (l : List ℕ) → rest_of l ≡ drop 1 l
rest_is [] = refl
rest_is (x ∷ xs) = refl

there_told : (a a' : Option Membership) (b : Option Placed) (j k : List Entry) → ((d : ℕ) → length (waiting d k) ≤ length (waiting d j)) → AreTold a a' → IsThere a b j → IsThere a' (option_map without_first b) k
there_told None a' None j k less told there = there_by None a' None None k told refl tt
there_told (Some m) a' (Some box) j k less told there = there_by (Some told.0) a' (Some (without_first box)) (Some (without_first box)) k told.1 refl (record {
  doc_is = told.2.doc_is ∙ there.doc_is;
  source_is = told.2.source_is ∙ there.source_is;
  outbox_is = told.2.outbox_is ∙ ap rest_of there.outbox_is ∙ rest_is box.places;
  room = let r = there.room in let s = told.2.spare_is in let l = less box.doc in omega (arith, r, s, l);
})
there_told None a' (Some box) j k less told there = absurd there
there_told (Some m) a' None j k less told there = absurd there

pub roomed_got : (rooms rooms' : Roomed) (j : List Entry) (e : Entry) (client : ℕ) (brief : Brief) → IsLegal j → e.act ≡ Got client brief → Pops client rooms rooms' → AreRoomed rooms j → AreRoomed rooms' (j ++ e ∷ [])
roomed_got rooms rooms' j e client brief legal is pops were c = by (eqb_tells client c)
  where
    k : List Entry
    k = j ++ e ∷ []

    less : (d : ℕ) → length (waiting d k) ≤ length (waiting d j)
    less d = let w = ap length (waits_still d j e legal (ap ticket_of is) (ap (sends d) is)) in omega (arith, w)

    next : placed c k ≡ (if eqb client c then option_map without_first (placed c j) else placed c j)
    next = placed-push c j e ∙ ap (λ a. placed_by c j a (placed c j)) is

    by : ((eqb client c ≡ true) × (client ≡ c)) ⊎ ((eqb client c ≡ false) × (client ≢ c)) → IsThere (member c rooms') (placed c k) k
    by (inl t) =
        there_by pops.0 (member c rooms') (option_map without_first (placed c j)) (placed c k) k
        (ap (λ n. member n rooms') (sym t.1) ∙ pops.2.changed) (next ∙ ap (λ b. if b then option_map without_first (placed c j) else placed c j) t.0)
        (there_told (member c rooms) pops.0 (placed c j) j k less (subst (λ n. AreTold (member n rooms) pops.0) t.1 pops.1) (were c))
    by (inr t) =
        there_by (member c rooms) (member c rooms') (placed c j) (placed c k) k (pops.2.others c (λ h. t.1 (sym h))) (next ∙ ap (λ b. if b then option_map without_first (placed c j) else placed c j) t.0)
        (there_kept (member c rooms) (placed c j) j k less (were c))

-- ---- what is first in an outbox
first_of : (l : List ℕ) (place : ℕ) → slice_get l 0 ≡ Some place → (rest : List ℕ) × (l ≡ place ∷ rest)
first_of [] place is = absurd (cc)
first_of (x ∷ xs) place is = (xs, ap (λ n. n ∷ xs) (same_item x place is))

-- is what the client is told first
pub first_told : (rooms : Roomed) (j : List Entry) (c place source : ℕ) → IsLegal j → AreRoomed rooms j → option_and_then first_posted (member c rooms) ≡ Some place → option_map (λ (m : Membership). m.source) (member c rooms) ≡ Some source
    → (m : Msg) × (rest : List Msg) × (told_at j source place ≡ Some m) × (mail c j ≡ m ∷ rest)
first_told rooms j c place source legal were next under = by (member c rooms) (placed c j) refl (were c) next under
  where
    by : (a : Option Membership) (b : Option Placed) → placed c j ≡ b → IsThere a b j → option_and_then first_posted a ≡ Some place → option_map (λ (m : Membership). m.source) a ≡ Some source → (m : Msg) × (rest : List Msg) × (told_at j source place ≡ Some m) × (mail c j ≡ m ∷ rest)
    by (Some m) (Some box) is there next under =
        let f = first_of m.outbox place next in
        subst (λ n. (m : Msg) × (rest : List Msg) × (told_at j n place ≡ Some m) × (mail c j ≡ m ∷ rest)) (sym there.source_is ∙ same_item m.source source under)
        (first_mail c j (legal_but j legal) box is place f.0 (sym there.outbox_is ∙ f.1))
    by None b is there next under = absurd (cc)
    by (Some m) None is there next under = absurd there

-- and where nothing is, it has no mail
pub none_told : (rooms : Roomed) (j : List Entry) (c : ℕ) → IsLegal j → AreRoomed rooms j → option_and_then first_posted (member c rooms) ≡ None → mail c j ≡ []
none_told rooms j c legal were none = by (member c rooms) (placed c j) refl (were c) none
  where
    empty : (l : List ℕ) → slice_get l 0 ≡ None → l ≡ []
    empty [] is = refl
    empty (x ∷ xs) is = absurd (cc)

    by : (a : Option Membership) (b : Option Placed) → placed c j ≡ b → IsThere a b j → option_and_then first_posted a ≡ None → mail c j ≡ []
    by (Some m) (Some box) is there none = no_mail c j (legal_but j legal) box is (sym there.outbox_is ∙ empty m.outbox none)
    by None None is there none = (subst (IsMailIn c j) is (mail_at_places c j (legal_but j legal))).1
    by None (Some box) is there none = absurd there
    by (Some m) None is there none = absurd there

-- a client that gets something is in a room
pub sourced_if_told : (rooms : Roomed) (c place : ℕ) → option_and_then first_posted (member c rooms) ≡ Some place → option_map (λ (m : Membership). m.source) (member c rooms) ≡ None → ⊥
sourced_if_told rooms c place next none = by (member c rooms) next none
  where
    by : (a : Option Membership) → option_and_then first_posted a ≡ Some place → option_map (λ (m : Membership). m.source) a ≡ None → ⊥
    by None next none = absurd (cc)
    by (Some m) next none = absurd (cc)

-- something is first in its outbox just where it has mail
pub told_first : (rooms : Roomed) (j : List Entry) (c : ℕ) → IsLegal j → AreRoomed rooms j → is_some (option_and_then first_posted (member c rooms)) ≡ is_some (slice_get (mail c j) 0)
told_first rooms j c legal were = by (option_and_then first_posted (member c rooms)) refl (option_map (λ (m : Membership). m.source) (member c rooms)) refl
  where
    by : (first : Option ℕ) → option_and_then first_posted (member c rooms) ≡ first → (source : Option ℕ) → option_map (λ (m : Membership). m.source) (member c rooms) ≡ source → is_some (option_and_then first_posted (member c rooms)) ≡ is_some (slice_get (mail c j) 0)
    by None next source under = ap (λ (o : Option ℕ). is_some o) next ∙ sym (ap (λ (ms : List Msg). is_some (slice_get ms 0)) (none_told rooms j c legal were next))
    by (Some place) next (Some source) under = ap (λ (o : Option ℕ). is_some o) next ∙ sym (ap (λ (ms : List Msg). is_some (slice_get ms 0)) (first_told rooms j c place source legal were next under).3)
    by (Some place) next None under = absurd (sourced_if_told rooms c place next under)
