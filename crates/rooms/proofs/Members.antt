-- Where clients are, by their keys and the slab.
use Rattle.std.proofs.Common.{◌≡◌, ◌≢◌, ℕ, zero, suc, ◌+◌, ◌<◌, ◌≤◌, List, [], ◌∷◌, ◌++◌, length, set, Option, None, Some, refl, sym, ap, ◌∙◌, subst, ⊎_elim, Result, Ok, Err, OnErr, arith, get_or, get_or-set_other, get_or-set_same, below_more}
use Rattle.std.proofs.lemmas.Bool.{cases_eq, cases_lt}
use Rattle.std.specs.Prelude.{option_map}
use Rattle.std.specs.Option.{IsNone, option_copied_mut, option_to_list}
use Rattle.std.specs.Borrow.{MutBor}
use Rattle.slab.specs.Slab.{Slab, Updates, get, with_value}
use Rattle.rooms.specs.declared.member.Member.{Member}
use Rattle.rooms.specs.Rooms.{Membership, Roomed, member, Moves, Stay, IsRoomier, AreRoomier, AreSame, AreTold, AreRenewed, IsRenewed, Renews, HaveRoom, IsPosted, posted, posted_in, without_first, seen, seen_at, seen_all, AreKeyed}

-- the key of a client
abbrev pub key_at : List (Option ℕ) → ℕ → Option ℕ
key_at keys client = get_or keys client None

-- a client is where the member at its key is
pub member_is : (keys : List (Option ℕ)) (slab : Slab Member) (client : ℕ) → member client (seen_all keys slab) ≡ seen_at slab (key_at keys client)
member_is [] slab client = refl
member_is (k ∷ keys) slab zero = refl
member_is (k ∷ keys) slab (suc client) = member_is keys slab client

-- past the end there is nothing
pub some_within : {X : Type 0} (xs : List (Option X)) (k : ℕ) (x : X) → get_or xs k None ≡ Some x → k < length xs
some_within [] k x e = absurd (cc)
some_within (y ∷ ys) zero x e = omega arith
some_within (y ∷ ys) (suc k) x e = let r = some_within ys k x e in omega (arith, r)

some_one : {X : Type 0} {x y : X} → Some x ≡ Some y → x ≡ y
some_one e = cc

none_some : {X : Type 0} {x : X} → Some x ≡ None → ⊥
none_some e = cc

-- two clients have two keys
pub keys_apart : (keys : List (Option ℕ)) (slab : Slab Member) (client key : ℕ) → AreKeyed keys slab → key_at keys client ≡ Some key → (c k : ℕ) → c ≢ client → key_at keys c ≡ Some k → k ≢ key
keys_apart keys slab client key keyed here c k ne there same =
    let mine = keyed.held client key here in
    let other = keyed.held c k there in
    let one : Some mine.0 ≡ Some other.0 = sym mine.1 ∙ ap (get slab) (sym same) ∙ other.1 in
    ne (sym other.2 ∙ ap (λ (m : Member). m.client) (sym (some_one one)) ∙ mine.2)

-- a key that is vacant is nobody's
pub vacant_apart : (keys : List (Option ℕ)) (slab : Slab Member) (client key : ℕ) → AreKeyed keys slab → get slab key ≡ None → (c k : ℕ) → c ≢ client → key_at keys c ≡ Some k → k ≢ key
vacant_apart keys slab client key keyed none c k ne there same = let other = keyed.held c k there in none_some (sym other.1 ∙ ap (get slab) same ∙ none)

-- what changes at one client's key changes for this client alone
pub record Apart (keys : List (Option ℕ)) (slab : Slab Member) (client key : ℕ) (keys' : List (Option ℕ)) (slab' : Slab Member) : Type 0 where
  pub keyed : AreKeyed keys slab
  pub apart : (c k : ℕ) → c ≢ client → key_at keys c ≡ Some k → k ≢ key
  pub mine : (k : ℕ) → key_at keys client ≡ Some k → k ≡ key
  pub keys_kept : (c : ℕ) → c ≢ client → key_at keys' c ≡ key_at keys c
  pub slab_kept : (k : ℕ) → k ≢ key → get slab' k ≡ get slab k

module _ (keys : List (Option ℕ)) (slab : Slab Member) (client key : ℕ) (keys' : List (Option ℕ)) (slab' : Slab Member) (a : Apart keys slab client key keys' slab') where
  pub others_stay : (c : ℕ) → c ≢ client → member c (seen_all keys' slab') ≡ member c (seen_all keys slab)
  others_stay c ne = member_is keys' slab' c ∙ ap (seen_at slab') (a.keys_kept c ne) ∙ go (key_at keys c) refl ∙ sym (member_is keys slab c)
    where
      go : (o : Option ℕ) → key_at keys c ≡ o → seen_at slab' o ≡ seen_at slab o
      go None e = refl
      go (Some k) e = ap (λ (m : Option Member). option_map seen m) (a.slab_kept k (a.apart c k ne e))

  -- the client moves
  pub moved : (there : Option Membership) → seen_at slab' (key_at keys' client) ≡ there → Moves client there (seen_all keys slab) (seen_all keys' slab')
  moved there e = record { changed = member_is keys' slab' client ∙ e; others = others_stay }

  -- and all are keyed where this client is
  pub keyed_on : ((k : ℕ) → key_at keys' client ≡ Some k → (m : Member) × (get slab' k ≡ Some m) × (m.client ≡ client)) → ((m : Member) → get slab' key ≡ Some m → key_at keys' m.client ≡ Some key) → AreKeyed keys' slab'
  keyed_on here own = record {
    held = λ c k e. ⊎_elim {C = (m : Member) × (get slab' k ≡ Some m) × (m.client ≡ c)}
        (λ (same : c ≡ client). let it = here k (ap (key_at keys') (sym same) ∙ e) in (it.0, it.1, it.2 ∙ sym same))
        (λ ne. let was : key_at keys c ≡ Some k = sym (a.keys_kept c ne) ∙ e in let it = a.keyed.held c k was in (it.0, a.slab_kept k (a.apart c k ne was) ∙ it.1, it.2))
        (cases_eq c client);
    owned = λ k m e. ⊎_elim {C = key_at keys' m.client ≡ Some k}
        (λ (same : k ≡ key). own m (ap (get slab') (sym same) ∙ e) ∙ ap Some (sym same))
        (λ ne. let was : key_at keys m.client ≡ Some k = a.keyed.owned k m (sym (a.slab_kept k ne) ∙ e) in
        ⊎_elim {C = key_at keys' m.client ≡ Some k}
        (λ (same : m.client ≡ client). absurd (ne (a.mine k (ap (key_at keys) (sym same) ∙ was))))
        (λ other. a.keys_kept m.client other ∙ was)
        (cases_eq m.client client))
        (cases_eq k key);
  }

-- ---- all members, one key after the other

abbrev pub Upto : (Option Member → Option Member → Type 0) → Slab Member → Slab Member → ℕ → Type 0
Upto R old now key = (now.capacity ≡ old.capacity) × ((k : ℕ) → k < key → R (get old k) (get now k)) × ((k : ℕ) → key ≤ k → get now k ≡ get old k)

module _ (R : Option Member → Option Member → Type 0) (key : ℕ) (old now : Slab Member) (h : Upto R old now key) where
  put_other : (m n : Member) → get now key ≡ Some m → (k : ℕ) → k ≢ key → get (with_value now key n) k ≡ get now k
  put_other m n is k ne = get_or-set_other now.slots key k (Some n) None ne

  pub put_here : (m n : Member) → get now key ≡ Some m → get (with_value now key n) key ≡ Some n
  put_here m n is = get_or-set_same now.slots key (Some n) None (some_within now.slots key m is)

  pub was_here : (m : Member) → get now key ≡ Some m → get old key ≡ Some m
  was_here m is = sym (h.2 key (omega arith)) ∙ is

  pub step_some : (m n : Member) → get now key ≡ Some m → R (Some m) (Some n) → Upto R old (with_value now key n) (key + 1)
  step_some m n is r =
      let mine : R (get old key) (get (with_value now key n) key) = subst (λ (p : Option Member × Option Member). R p.0 p.1) (λ i. (sym (was_here m is) i, sym (put_here m n is) i)) r in (
        h.0,
        below_more (λ k. R (get old k) (get (with_value now key n) k)) key (λ k l. subst (R (get old k)) (sym (put_other m n is k (λ e. omega (arith, l, e)))) (h.1 k l)) mine,
        λ k le. put_other m n is k (λ e. omega (arith, le, e)) ∙ h.2 k (omega (arith, le)),
      )

  pub step_none : get now key ≡ None → R None None → Upto R old now (key + 1)
  step_none is r =
      let was : get old key ≡ None = sym (h.2 key (omega arith)) ∙ is in
      let mine : R (get old key) (get now key) = subst (λ (p : Option Member × Option Member). R p.0 p.1) (λ i. (sym was i, sym is i)) r in
      (h.0, below_more (λ k. R (get old k) (get now k)) key h.1 mine, λ k le. h.2 k (omega (arith, le)))

  -- one that stops short of the others leaves them as they were
  pub stop_some : ((x : Option Member) → R x x) → (m n : Member) → get now key ≡ Some m → R (Some m) (Some n) → (k : ℕ) → R (get old k) (get (with_value now key n) k)
  stop_some same m n is r k =
      let next = step_some m n is r in
      ⊎_elim {C = R (get old k) (get (with_value now key n) k)} (λ lt. next.1 k (omega (arith, lt))) (λ le. subst (R (get old k)) (sym (next.2 k le)) (same (get old k))) (cases_lt k (key + 1))

-- what is past the capacity stays as it was
pub all_done : (R : Option Member → Option Member → Type 0) → ((x : Option Member) → R x x) → (old now : Slab Member) (key : ℕ) → Upto R old now key → (k : ℕ) → R (get old k) (get now k)
all_done R same old now key h k =
    ⊎_elim {C = R (get old k) (get now k)} (λ lt. h.1 k lt) (λ le. subst (R (get old k)) (sym (h.2 k le)) (same (get old k))) (cases_lt k key)

pub found : (o : Option (MutBor Member)) (x : Option Member) (r : MutBor Member) → option_copied_mut o ≡ x → o ≡ Some r → x ≡ Some r.now
found o x r value is = sym value ∙ ap option_copied_mut is

pub none_found : (o : Option (MutBor Member)) (x : Option Member) → option_copied_mut o ≡ x → ((r : MutBor Member) → o ≡ Some r → ⊥) → x ≡ None
none_found None x value none = sym value
none_found (Some r) x value none = absurd (none r refl)

-- ---- from the slab to the rooms

pub same_self : (x : Option Member) → AreSame x x
same_self None = refl
same_self (Some m) = (m, refl, refl, record { doc_is = refl; source_is = refl; outbox_is = refl; spare_is = omega arith })

pub all_roomier : (keys : List (Option ℕ)) (old new : Slab Member) → ((k : ℕ) → AreSame (get old k) (get new k)) → (client : ℕ) → AreRoomier (member client (seen_all keys old)) (member client (seen_all keys new))
all_roomier keys old new all client = subst (λ (p : Option Membership × Option Membership). AreRoomier p.0 p.1) (λ i. (sym (member_is keys old client) i, sym (member_is keys new client) i)) (go (key_at keys client))
  where
    one : (x y : Option Member) → AreSame x y → AreRoomier (option_map seen x) (option_map seen y)
    one None y s = ap (option_map seen) s
    one (Some m) y s = (seen s.0, ap (option_map seen) s.1, s.3)

    go : (o : Option ℕ) → AreRoomier (seen_at old o) (seen_at new o)
    go None = refl
    go (Some k) = one (get old k) (get new k) (all k)

-- the same clients at the same keys are keyed as before
pub record SameClient (x y : Option Member) : Type 0 where
  pub on : (m : Member) → x ≡ Some m → (n : Member) × (y ≡ Some n) × (n.client ≡ m.client)
  pub back : (n : Member) → y ≡ Some n → (m : Member) × (x ≡ Some m) × (n.client ≡ m.client)

pub clients_keyed : (keys : List (Option ℕ)) (old new : Slab Member) → ((k : ℕ) → SameClient (get old k) (get new k)) → AreKeyed keys old → AreKeyed keys new
clients_keyed keys old new all keyed = record {
  held = λ c k e. let it = keyed.held c k e in let s = (all k).on it.0 it.1 in (s.0, s.1, s.2 ∙ it.2);
  owned = λ k n e. let s = (all k).back n e in ap (key_at keys) s.2 ∙ keyed.owned k s.0 s.1;
}

by_same : (x y : Option Member) → AreSame x y → SameClient x y
by_same None y s = record { on = λ m e. absurd (cc); back = λ n e. absurd (none_some (sym e ∙ s)) }
by_same (Some m) y s = record {
  on = λ m' e. (s.0, s.1, s.2 ∙ ap (λ (x : Member). x.client) (some_one e));
  back = λ n e. (m, refl, ap (λ (x : Member). x.client) (some_one (sym e ∙ s.1)) ∙ s.2);
}

by_posted : (doc at : ℕ) (x y : Option Member) → IsPosted doc at x y → SameClient x y
by_posted doc at None y s = record { on = λ m e. absurd (cc); back = λ n e. absurd (none_some (sym e ∙ s)) }
by_posted doc at (Some m) y s = record {
  on = λ m' e. (s.0, s.1, s.2 ∙ ap (λ (x : Member). x.client) (some_one e));
  back = λ n e. (m, refl, ap (λ (x : Member). x.client) (some_one (sym e ∙ s.1)) ∙ s.2);
}

pub same_keyed : (keys : List (Option ℕ)) (old new : Slab Member) → ((k : ℕ) → AreSame (get old k) (get new k)) → AreKeyed keys old → AreKeyed keys new
same_keyed keys old new all = clients_keyed keys old new (λ k. by_same (get old k) (get new k) (all k))

pub all_posted : (doc at : ℕ) (keys : List (Option ℕ)) (old new : Slab Member) → ((k : ℕ) → IsPosted doc at (get old k) (get new k)) → (client : ℕ) → member client (seen_all keys new) ≡ option_map (posted_in doc at) (member client (seen_all keys old))
all_posted doc at keys old new all client = member_is keys new client ∙ go (key_at keys client) ∙ ap (option_map (posted_in doc at)) (sym (member_is keys old client))
  where
    one : (x y : Option Member) → IsPosted doc at x y → option_map seen y ≡ option_map (posted_in doc at) (option_map seen x)
    one None y s = ap (option_map seen) s
    one (Some m) y s = ap (option_map seen) s.1 ∙ ap Some s.3

    go : (o : Option ℕ) → seen_at new o ≡ option_map (posted_in doc at) (seen_at old o)
    go None = refl
    go (Some k) = one (get old k) (get new k) (all k)

pub posted_keyed : (doc at : ℕ) (keys : List (Option ℕ)) (old new : Slab Member) → ((k : ℕ) → IsPosted doc at (get old k) (get new k)) → AreKeyed keys old → AreKeyed keys new
posted_keyed doc at keys old new all = clients_keyed keys old new (λ k. by_posted doc at (get old k) (get new k) (all k))

-- a member of the slab is in its room
pub member_at : (keys : List (Option ℕ)) (slab : Slab Member) → AreKeyed keys slab → (k : ℕ) (m : Member) → get slab k ≡ Some m → member m.client (seen_all keys slab) ≡ Some (seen m)
member_at keys slab keyed k m e = member_is keys slab m.client ∙ ap (seen_at slab) (keyed.owned k m e) ∙ ap (option_map seen) e

-- and whoever is in a room is a member of the slab
pub record Held (slab : Slab Member) (client : ℕ) (there : Membership) : Type 0 where
  pub key : ℕ
  pub one : Member
  pub one_is : get slab key ≡ Some one
  pub there_is : there ≡ seen one

pub held_at : (keys : List (Option ℕ)) (slab : Slab Member) (client : ℕ) (there : Membership) → member client (seen_all keys slab) ≡ Some there → Held slab client there
held_at keys slab client there e = go (key_at keys client) (sym (member_is keys slab client) ∙ e)
  where
    by : (k : ℕ) (x : Option Member) → get slab k ≡ x → option_map seen x ≡ Some there → Held slab client there
    by k None is f = cc
    by k (Some m) is f = record { key = k; one = m; one_is = is; there_is = sym (some_one f) }

    go : (o : Option ℕ) → seen_at slab o ≡ Some there → Held slab client there
    go None f = cc
    go (Some k) f = by k (get slab k) refl f

-- one member is another now, of the same client
module _ (keys : List (Option ℕ)) (slab : Slab Member) (client key : ℕ) (m n : Member) (keyed : AreKeyed keys slab) (here : key_at keys client ≡ Some key) (is : get slab key ≡ Some m) (same : n.client ≡ m.client) where
  pub put_is : get (with_value slab key n) key ≡ Some n
  put_is = get_or-set_same slab.slots key (Some n) None (some_within slab.slots key m is)

  pub put_apart : Apart keys slab client key keys (with_value slab key n)
  put_apart = record {
    keyed = keyed;
    apart = keys_apart keys slab client key keyed here;
    mine = λ k e. some_one (sym e ∙ here);
    keys_kept = λ c ne. refl;
    slab_kept = λ k ne. get_or-set_other slab.slots key k (Some n) None ne;
  }

  client_is : m.client ≡ client
  client_is = let it = keyed.held client key here in ap (λ (x : Member). x.client) (some_one (sym is ∙ it.1)) ∙ it.2

  pub put_keyed : AreKeyed keys (with_value slab key n)
  put_keyed = keyed_on keys slab client key keys (with_value slab key n) put_apart
      (λ k e. (n, ap (get (with_value slab key n)) (some_one (sym e ∙ here)) ∙ put_is, same ∙ client_is))
      (λ x e. ap (key_at keys) (ap (λ (y : Member). y.client) (some_one (sym e ∙ put_is)) ∙ same ∙ client_is) ∙ here)

  pub put_moves : Moves client (Some (seen n)) (seen_all keys slab) (seen_all keys (with_value slab key n))
  put_moves = moved keys slab client key keys (with_value slab key n) put_apart (Some (seen n)) (ap (seen_at (with_value slab key n)) here ∙ ap (option_map seen) put_is)

  pub was_there : member client (seen_all keys slab) ≡ Some (seen m)
  was_there = member_is keys slab client ∙ ap (seen_at slab) here ∙ ap (option_map seen) is

-- one member is taken out, with its key
module _ (keys : List (Option ℕ)) (slab : Slab Member) (client key : ℕ) (slab' : Slab Member) (keyed : AreKeyed keys slab) (here : key_at keys client ≡ Some key) (out : Updates slab slab' key None) where
  pub vacated_gone : key_at (set keys client None) client ≡ None
  vacated_gone = get_or-set_same keys client None None (some_within keys client key here)

  pub vacated_apart : Apart keys slab client key (set keys client None) slab'
  vacated_apart = record {
    keyed = keyed;
    apart = keys_apart keys slab client key keyed here;
    mine = λ k e. some_one (sym e ∙ here);
    keys_kept = λ c ne. get_or-set_other keys client c None None ne;
    slab_kept = out.others;
  }

  pub vacated_keyed : AreKeyed (set keys client None) slab'
  vacated_keyed = keyed_on keys slab client key (set keys client None) slab' vacated_apart
      (λ k e. absurd (none_some (sym e ∙ vacated_gone)))
      (λ x e. absurd (none_some (sym e ∙ out.changed)))

  pub vacated_moves : Moves client None (seen_all keys slab) (seen_all (set keys client None) slab')
  vacated_moves = moved keys slab client key (set keys client None) slab' vacated_apart None (ap (seen_at slab') vacated_gone)

-- one member comes in at a vacant key, for a client that had none
module _ (keys : List (Option ℕ)) (slab : Slab Member) (client key : ℕ) (slab' : Slab Member) (m : Member) (keyed : AreKeyed keys slab) (none : key_at keys client ≡ None) (long : client < length keys) (vacant : get slab key ≡ None) (in_ : Updates slab slab' key (Some m)) (same : m.client ≡ client) where
  pub entered_here : key_at (set keys client (Some key)) client ≡ Some key
  entered_here = get_or-set_same keys client (Some key) None long

  entered_apart : Apart keys slab client key (set keys client (Some key)) slab'
  entered_apart = record {
    keyed = keyed;
    apart = vacant_apart keys slab client key keyed vacant;
    mine = λ k e. absurd (none_some (sym e ∙ none));
    keys_kept = λ c ne. get_or-set_other keys client c (Some key) None ne;
    slab_kept = in_.others;
  }

  pub entered_keyed : AreKeyed (set keys client (Some key)) slab'
  entered_keyed = keyed_on keys slab client key (set keys client (Some key)) slab' entered_apart
      (λ k e. (m, ap (get slab') (some_one (sym e ∙ entered_here)) ∙ in_.changed, same))
      (λ x e. ap (key_at (set keys client (Some key))) (ap (λ (y : Member). y.client) (some_one (sym e ∙ in_.changed)) ∙ same) ∙ entered_here)

  pub entered_moves : Moves client (Some (seen m)) (seen_all keys slab) (seen_all (set keys client (Some key)) slab')
  entered_moves = moved keys slab client key (set keys client (Some key)) slab' entered_apart (Some (seen m)) (ap (seen_at slab') entered_here ∙ ap (option_map seen) in_.changed)

-- a client that moves twice has moved to where it is
pub moves_on : (client : ℕ) (x y : Option Membership) (a b c : Roomed) → Moves client x a b → Moves client y b c → Moves client y a c
moves_on client x y a b c f g = record { changed = g.changed; others = λ other ne. g.others other ne ∙ f.others other ne }

-- who has no key, or more keys that are none, is where it was
pub stay_by : (keys keys' : List (Option ℕ)) (slab slab' : Slab Member) → ((c : ℕ) → key_at keys' c ≡ key_at keys c) → slab'.slots ≡ slab.slots → (client : ℕ) → member client (seen_all keys' slab') ≡ member client (seen_all keys slab)
stay_by keys keys' slab slab' same slots client = member_is keys' slab' client ∙ ap (seen_at slab') (same client) ∙ go (key_at keys client) ∙ sym (member_is keys slab client)
  where
    go : (o : Option ℕ) → seen_at slab' o ≡ seen_at slab o
    go None = refl
    go (Some k) = ap (λ (s : List (Option Member)). option_map seen (get_or s k None)) slots

pub keyed_by : (keys keys' : List (Option ℕ)) (slab slab' : Slab Member) → ((c : ℕ) → key_at keys' c ≡ key_at keys c) → slab'.slots ≡ slab.slots → AreKeyed keys slab → AreKeyed keys' slab'
keyed_by keys keys' slab slab' same slots keyed = record {
  held = λ c k e. let it = keyed.held c k (sym (same c) ∙ e) in (it.0, ap (λ (s : List (Option Member)). get_or s k None) slots ∙ it.1, it.2);
  owned = λ k m e. same m.client ∙ keyed.owned k m (ap (λ (s : List (Option Member)). get_or s k None) (sym slots) ∙ e);
}

pub joined_moves : (client : ℕ) (x : Option Membership) (a b c d : Roomed) → Stay a b → Moves client None b c → Moves client x c d → Moves client x a d
joined_moves client x a b c d s f g = record { changed = g.changed; others = λ other ne. g.others other ne ∙ f.others other ne ∙ s other }

pub as_empty : (client doc source spare : ℕ) (items : List ℕ) (a b : Roomed) → items ≡ [] → Moves client (Some (record { doc = doc; source = source; outbox = items; spare = spare })) a b → Moves client (Some (record { doc = doc; source = source; outbox = []; spare = spare })) a b
as_empty client doc source spare items a b e = subst (λ (l : List ℕ). Moves client (Some (record { doc = doc; source = source; outbox = l; spare = spare })) a b) e

-- what is left behind the first
rest_is : (r : Option ℕ) (xs ys : List ℕ) → xs ≡ option_to_list r ++ ys → (IsNone r → xs ≡ []) → ys ≡ without_first xs
rest_is None xs ys e none = let empty : xs ≡ [] = none refl in sym e ∙ empty ∙ ap without_first (sym empty)
rest_is (Some x) xs ys e none = ap without_first (sym e)

pub told_on : (client : ℕ) (rooms : Roomed) (m n : Member) (r : Option ℕ) → member client rooms ≡ Some (seen m) → n.doc ≡ m.doc → n.source ≡ m.source → m.outbox.items ≡ option_to_list r ++ n.outbox.items → (IsNone r → m.outbox.items ≡ []) → n.outbox.spare ≡ m.outbox.spare + length (option_to_list r) → AreTold (member client rooms) (Some (seen n))
told_on client rooms m n r is doc source items none spare =
    subst (λ (x : Option Membership). AreTold x (Some (seen n))) (sym is) (seen n, refl, record { doc_is = doc; source_is = source; outbox_is = rest_is r m.outbox.items n.outbox.items items none; spare_is = omega (arith, spare) })

-- where one member has more room, all have no less
pub roomier_on : (client : ℕ) (a b : Roomed) (s t : Membership) → member client a ≡ Some s → Moves client (Some t) a b → IsRoomier s t → (other : ℕ) → AreRoomier (member other a) (member other b)
roomier_on client a b s t is moves more other = ⊎_elim {C = AreRoomier (member other a) (member other b)}
    (λ (same : other ≡ client). subst (λ (p : Option Membership × Option Membership). AreRoomier p.0 p.1) (λ i. (sym (ap (λ c. member c a) same ∙ is) i, sym (ap (λ c. member c b) same ∙ moves.changed) i)) (t, refl, more))
    (λ ne. subst (AreRoomier (member other a)) (sym (moves.others other ne)) (roomier_self (member other a)))
    (cases_eq other client)
  where
    roomier_self : (x : Option Membership) → AreRoomier x x
    roomier_self None = refl
    roomier_self (Some m) = (m, refl, record { doc_is = refl; source_is = refl; outbox_is = refl; spare_is = omega arith })

pub on_err : {T E : Type 0} (P : Type 0) (r : Result T E) → P → OnErr r P
on_err P (Ok x) p = tt
on_err P (Err e) p = p

-- a member that isn't there contradicts its key
pub no_member : (keys : List (Option ℕ)) (slab : Slab Member) (client key : ℕ) {X : Type 0} → AreKeyed keys slab → key_at keys client ≡ Some key → get slab key ≡ None → X
no_member keys slab client key keyed here none = let it = keyed.held client key here in absurd (none_some (sym it.1 ∙ none))

-- one who is told of a place more
pub posted_on : (client at : ℕ) (m n : Member) (a b : Roomed) → member client a ≡ Some (seen m) → n.doc ≡ m.doc → n.source ≡ m.source → n.outbox.items ≡ m.outbox.items ++ at ∷ [] → n.outbox.spare + 1 ≡ m.outbox.spare → Moves client (Some (seen n)) a b → Moves client (option_map (posted at) (member client a)) a b
posted_on client at m n a b was doc source items spare moves =
    let same : seen n ≡ posted at (seen m) = same_members (seen n) (posted at (seen m)) doc source items (omega (arith, spare)) in
    subst (λ (x : Option Membership). Moves client x a b) (ap Some same ∙ ap (option_map (posted at)) (sym was)) moves
  where
    same_members : (x y : Membership) → x.doc ≡ y.doc → x.source ≡ y.source → x.outbox ≡ y.outbox → x.spare ≡ y.spare → x ≡ y
    same_members x y d s o p i = record { doc = d i; source = s i; outbox = o i; spare = p i }

-- one who goes on under another source
pub renewed_on : (client source : ℕ) (m n : Member) (a b : Roomed) → member client a ≡ Some (seen m) → IsRenewed source (seen m) (seen n) → Moves client (Some (seen n)) a b → Renews client source a b
renewed_on client source m n a b was new moves = (Some (seen n), subst (λ (x : Option Membership). AreRenewed source x (Some (seen n))) (sym was) (seen n, refl, new), moves)

-- whoever is in a room is a member of the slab that has room
pub have_room : (doc n : ℕ) (keys : List (Option ℕ)) (slab : Slab Member) → ((key : ℕ) (m : Member) → get slab key ≡ Some m → m.doc ≡ doc → n ≤ m.outbox.spare) → HaveRoom doc n (seen_all keys slab)
have_room doc n keys slab all client there is in_ =
    let h = held_at keys slab client there is in
    subst (λ (x : Membership). n ≤ x.spare) (sym h.there_is) (all h.key h.one h.one_is (ap (λ (x : Membership). x.doc) (sym h.there_is) ∙ in_))

-- each member of the room below a key has room
abbrev pub HaveRoomUpto : ℕ → ℕ → ℕ → Slab Member → Type 0
HaveRoomUpto doc n key slab = (k : ℕ) (m : Member) → k < key → get slab k ≡ Some m → m.doc ≡ doc → n ≤ m.outbox.spare

pub room_some : (doc n key : ℕ) (slab : Slab Member) (m new : Member) → HaveRoomUpto doc n key slab → get slab key ≡ Some m → (new.doc ≡ doc → n ≤ new.outbox.spare) → HaveRoomUpto doc n (key + 1) (with_value slab key new)
room_some doc n key slab m new all is here k x lt e d = ⊎_elim {C = n ≤ x.outbox.spare}
    (λ (same : k ≡ key). let one : new ≡ x = some_one (sym (get_or-set_same slab.slots key (Some new) None (some_within slab.slots key m is)) ∙ ap (get (with_value slab key new)) (sym same) ∙ e) in
    subst (λ (y : Member). n ≤ y.outbox.spare) one (here (ap (λ (y : Member). y.doc) one ∙ d)))
    (λ ne. all k x (omega (arith, lt, ne)) (sym (get_or-set_other slab.slots key k (Some new) None ne) ∙ e) d)
    (cases_eq k key)

pub room_none : (doc n key : ℕ) (slab : Slab Member) → HaveRoomUpto doc n key slab → get slab key ≡ None → HaveRoomUpto doc n (key + 1) slab
room_none doc n key slab all none k x lt e d = ⊎_elim {C = n ≤ x.outbox.spare}
    (λ (same : k ≡ key). absurd (none_some (sym e ∙ ap (get slab) same ∙ none)))
    (λ ne. all k x (omega (arith, lt, ne)) e d)
    (cases_eq k key)
