-- A worker goes on: from one update to the next, and from one document to the next.
use Rattle.std.proofs.Common.{◌≡◌, ℕ, zero, suc, List, subst}
use Rattle.std.specs.Prelude.{None}
use Rattle.journal_entries.specs.declared.act.Entry.{Entry}
use Rattle.turn_rules.specs.Draining.{DrainsOne}
use Rattle.turn_rules.specs.Turns.{Among, entry_by}
use Rattle.run_rules.specs.Threads.{is_by, DrainsOn}
use Rattle.run_rules.proofs.Growing.{among_on, among_same}
use Rattle.workers.specs.Draining.{DrainsOf, DrainsSome, Works}

-- one update more of a document, or none; the seat's number is known by an equation
pub one_more : (n m doc : ℕ) (left mid last : List Entry) → m ≡ n → DrainsOne (entry_by m None) (Among (is_by m)) doc left mid → DrainsSome n doc mid last → DrainsSome n doc left last
one_more n m doc left mid last is one more = (suc more.0, (mid, subst (λ (k : ℕ). DrainsOne (entry_by k None) (Among (is_by k)) doc left mid) is one, more.1))

pub no_more : (n m doc : ℕ) (left last : List Entry) → m ≡ n → Among (is_by m) left last → DrainsSome n doc left last
no_more n m doc left last is among = (0, subst (λ (k : ℕ). Among (is_by k) left last) is among)

works_from : (seat : ℕ) (left mid last : List Entry) → Among (is_by seat) left mid → Works seat mid last → Works seat left last
works_from seat left mid last among w = (w.0, go w.0 w.1)
  where
    go : (n : ℕ) → DrainsOn seat n mid last → DrainsOn seat n left last
    go zero d = among_on (is_by seat) left mid last among d
    go (suc n) d =
        let one = d.2 in
        let up = one.3 in
        (d.0, d.1, (one.0, one.1, one.2, (up.0, up.1, among_on (is_by seat) left mid up.0 among up.2, up.3, up.4), one.4), d.3)

works_on : (seat doc : ℕ) (left mid last : List Entry) → DrainsSome seat doc left mid → Works seat mid last → Works seat left last
works_on seat doc left mid last d w = go d.0 left d.1
  where
    go : (n : ℕ) (left : List Entry) → DrainsOf seat doc n left mid → Works seat left last
    go zero left d = works_from seat left mid last d w
    go (suc n) left d = add left d.0 d.1 (go n d.0 d.2)
      where
        add : (left mid : List Entry) → DrainsOne (entry_by seat None) (Among (is_by seat)) doc left mid → Works seat mid last → Works seat left last
        add left mid one rest = (suc rest.0, (doc, mid, one, rest.1))

pub works_none : (seat : ℕ) (j : List Entry) → Works seat j j
works_none seat j = (0, among_same (is_by seat) j)

pub looked_on : (n m : ℕ) (left mid last : List Entry) → m ≡ n → Among (is_by m) left mid → Works n mid last → Works n left last
looked_on n m left mid last is among more = works_from n left mid last (subst (λ (k : ℕ). Among (is_by k) left mid) is among) more

pub drained_on : (n m doc : ℕ) (left mid last : List Entry) → m ≡ n → DrainsSome m doc left mid → Works n mid last → Works n left last
drained_on n m doc left mid last is some more = works_on n doc left mid last (subst (λ (k : ℕ). DrainsSome k doc left mid) is some) more

-- one course goes on into the next
pub works_more : (seat : ℕ) (left mid last : List Entry) → Works seat left mid → Works seat mid last → Works seat left last
works_more seat left mid last a b = go a.0 left a.1
  where
    go : (n : ℕ) (left : List Entry) → DrainsOn seat n left mid → Works seat left last
    go zero left d = works_from seat left mid last d b
    go (suc n) left d = let rest = go n d.1 d.3 in (suc rest.0, (d.0, d.1, d.2, rest.1))
