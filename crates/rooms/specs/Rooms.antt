-- What contracts see of the rooms.
use Rattle.std.specs.Prelude.{◌≡◌, ◌≢◌, ℕ, ◌-◌, ◌==◌, ◌≤◌, List, [], ◌∷◌, ◌++◌, map, slice_get, slice_index_or, refl, Option, Some, None, IfSome, option_map, if◌then◌else◌}
use Rattle.std.specs.Option.{option_and_then}
use Rattle.std.specs.Coded.{Coded, code_by, coded×, coded_list, coded_ℕ}
use Rattle.slab.specs.Slab.{Slab, get}
use Rattle.rooms.specs.declared.member.Member.{Member}

-- a client in a room: its document, the source that it joined under, the places of the journal that it is still to be told of, the first in front, and how many more there is room for
pub record Membership : Type 0 where
  pub doc : ℕ
  pub source : ℕ
  pub outbox : List ℕ
  pub spare : ℕ

-- it's stored as the pairs of its fields
abbrev pub membership_code : Coded Membership
membership_code =
    code_by (ℕ × (ℕ × (List ℕ × ℕ))) (coded× coded_ℕ (coded× coded_ℕ (coded× (coded_list coded_ℕ) coded_ℕ)))
    (λ m. (m.doc, (m.source, (m.outbox, m.spare)))) (λ p. record { doc = p.0; source = p.1.0; outbox = p.1.1.0; spare = p.1.1.1 }) (λ _. refl)

-- the rooms, by the numbers of clients: none where a client is in no room
abbrev pub Roomed : Type 0
Roomed = List (Option Membership)

-- where a client is
abbrev pub member : ℕ → Roomed → Option Membership
member client rooms = slice_index_or rooms client None

-- the client is there now, or isn't, and all others are where they were
pub record Moves (client : ℕ) (there : Option Membership) (old new : Roomed) : Type 0 where
  pub changed : member client new ≡ there
  pub others : (other : ℕ) → other ≢ client → member other new ≡ member other old

-- all are where they were
abbrev pub Stay : Roomed → Roomed → Type 0
Stay old new = (client : ℕ) → member client new ≡ member client old

-- a client joins a room, with an empty outbox that has room for so many places
abbrev pub Joins : ℕ → ℕ → ℕ → ℕ → Roomed → Roomed → Type 0
Joins client doc source room old new = (spare : ℕ) × (room ≤ spare) × Moves client (Some (record { doc = doc; source = source; outbox = []; spare = spare })) old new

-- the same member, with no less room
pub record IsRoomier (old new : Membership) : Type 0 where
  pub doc_is : new.doc ≡ old.doc
  pub source_is : new.source ≡ old.source
  pub outbox_is : new.outbox ≡ old.outbox
  pub spare_is : old.spare ≤ new.spare

abbrev pub AreRoomier : Option Membership → Option Membership → Type 0
AreRoomier None new = new ≡ None
AreRoomier (Some old) new = (m : Membership) × (new ≡ Some m) × IsRoomier old m

-- whoever is in the room has room for so many more
abbrev pub HaveRoom : ℕ → ℕ → Roomed → Type 0
HaveRoom doc n rooms = (client : ℕ) (m : Membership) → member client rooms ≡ Some m → m.doc ≡ doc → n ≤ m.spare

abbrev pub HasRoom : ℕ → Option Membership → Type 0
HasRoom n there = IfSome there (λ m. n ≤ m.spare)

-- a member is to be told of this place too
abbrev pub posted : ℕ → Membership → Membership
posted at m = record m { outbox = m.outbox ++ at ∷ []; spare = m.spare - 1 }

abbrev pub posted_in : ℕ → ℕ → Membership → Membership
posted_in doc at m = if m.doc == doc then posted at m else m

-- what is first in an outbox
abbrev pub first_posted : Membership → Option ℕ
first_posted m = slice_get m.outbox 0

-- and what is left behind the first
abbrev pub without_first : List ℕ → List ℕ
without_first [] = []
without_first (at ∷ rest) = rest

-- a member was told of the first
pub record IsTold (old new : Membership) : Type 0 where
  pub doc_is : new.doc ≡ old.doc
  pub source_is : new.source ≡ old.source
  pub outbox_is : new.outbox ≡ without_first old.outbox
  pub spare_is : old.spare ≤ new.spare

abbrev pub AreTold : Option Membership → Option Membership → Type 0
AreTold None new = new ≡ None
AreTold (Some old) new = (m : Membership) × (new ≡ Some m) × IsTold old m

abbrev pub Pops : ℕ → Roomed → Roomed → Type 0
Pops client old new = (there : Option Membership) × AreTold (member client old) there × Moves client there old new

-- a member is in its room under another source, with an empty outbox and no less room
pub record IsRenewed (source : ℕ) (old new : Membership) : Type 0 where
  pub doc_is : new.doc ≡ old.doc
  pub source_is : new.source ≡ source
  pub outbox_is : new.outbox ≡ []
  pub spare_is : old.spare ≤ new.spare

abbrev pub AreRenewed : ℕ → Option Membership → Option Membership → Type 0
AreRenewed source None new = new ≡ None
AreRenewed source (Some old) new = (m : Membership) × (new ≡ Some m) × IsRenewed source old m

abbrev pub Renews : ℕ → ℕ → Roomed → Roomed → Type 0
Renews client source old new = (there : Option Membership) × AreRenewed source (member client old) there × Moves client there old new

-- ---- how the rooms are kept: members in a slab, and for each client the key of its member

abbrev pub seen : Member → Membership
seen m = record { doc = m.doc; source = m.source; outbox = m.outbox.items; spare = m.outbox.spare }

abbrev pub seen_at : Slab Member → Option ℕ → Option Membership
seen_at members key = option_and_then (λ k. option_map seen (get members k)) key

abbrev pub seen_all : List (Option ℕ) → Slab Member → Roomed
seen_all keys members = map (seen_at members) keys

-- the member at a client's key is that client's, and each member is at its client's key
pub record AreKeyed (keys : List (Option ℕ)) (members : Slab Member) : Type 0 where
  pub held : (client key : ℕ) → slice_index_or keys client None ≡ Some key → (m : Member) × (get members key ≡ Some m) × (m.client ≡ client)
  pub owned : (key : ℕ) (m : Member) → get members key ≡ Some m → slice_index_or keys m.client None ≡ Some key

-- the same member, with no less room; and told of this place too, where it is in the room
abbrev pub AreSame : Option Member → Option Member → Type 0
AreSame None new = new ≡ None
AreSame (Some old) new = (m : Member) × (new ≡ Some m) × (m.client ≡ old.client) × IsRoomier (seen old) (seen m)

abbrev pub IsPosted : ℕ → ℕ → Option Member → Option Member → Type 0
IsPosted doc at None new = new ≡ None
IsPosted doc at (Some old) new = (m : Member) × (new ≡ Some m) × (m.client ≡ old.client) × (seen m ≡ posted_in doc at (seen old))
