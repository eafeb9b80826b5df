-- Entries of others leave what the driver knows as it was.
use Rattle.std.proofs.Common.{◌≡◌, ℕ, ◌+◌, ◌%◌, List, [], ◌∷◌, ◌++◌, Bool, true, false, not, sym, ap, ◌∙◌, subst, arith, append_assoc, append-nil, All}
use Rattle.std.specs.Prelude.{slice_get, Option, Some, if◌then◌else◌}
use Rattle.std.specs.List.{list_all}
use Rattle.std.proofs.lemmas.Bool.{and_parts, not-true}
use Rattle.std.proofs.lemmas.Nat.{mod_below}
use Rattle.journal_entries.specs.declared.act.Entry.{Entry}
use Rattle.journal_rules.specs.Client.{client}
use Rattle.journal_rules.specs.Documents.{is_in}
use Rattle.journal_rules.specs.Legal.{IsLegal, closed}
use Rattle.journal_rules.specs.Locks.{used_by}
use Rattle.journal_rules.proofs.Legality.{legal_front}
use Rattle.ending_rules.proofs.Apart.{all_first, all_later}
use Rattle.project_histories.specs.Handing.{items_of}
use Rattle.turn_rules.specs.Owning.{IsOwned, client_driver, client_owner}
use Rattle.turn_rules.specs.Turns.{Among, is_by}
use Rattle.turn_rules.proofs.Owning.{client_among}
use Rattle.share_client.specs.Clients.{Numbered}
use Rattle.book.specs.Roomed.{IsClientOf}
use Rattle.book.specs.declared.faults.Prepared.{Prepared}
use Rattle.seat_turns.proofs.Standing.{known_since, unused_by_others}
use Rattle.script_driver.specs.Clients.{AreOwnClientsOf}
use Rattle.script_driver.specs.Handing.{items_handed_by}
use Rattle.script_driver.specs.Holding.{AreHeld, Stands}
use Rattle.script_driver.proofs.Handing.{handed_by-push}
use Rattle.script_driver.proofs.Holding.{one_more}

-- ---- the one driver owns all clients
mod_one : (c : ℕ) → c % 1 ≡ 0
mod_one c = let low = mod_below c 1 (omega arith) in omega (arith, low)

pub driver_one : (c : ℕ) → client_driver 1 c ≡ 0
driver_one c = mod_one c

pub owner_one : (c : ℕ) → client_owner 1 c ≡ 1
owner_one c = ap (λ (n : ℕ). 1 + n) (mod_one c)

-- ---- what sessions hold
along : (p : Prepared) (more j : List Entry) → All (λ (e : Entry). is_in p.look.token (used_by e.act) ≡ false) more → Stands 1 j p → Stands 1 (j ++ more) p
along p [] j unused was = subst (λ (k : List Entry). Stands 1 k p) (sym (append-nil j)) was
along p (e ∷ es) j unused was =
    subst (λ (k : List Entry). Stands 1 k p) (append_assoc j (e ∷ []) es)
    (along p es (j ++ e ∷ []) (all_later (λ (x : Entry). is_in p.look.token (used_by x.act) ≡ false) e es unused)
    (one_more j e p (all_first (λ (x : Entry). is_in p.look.token (used_by x.act) ≡ false) e es unused) was))

stands_over : (p : Prepared) (j more : List Entry) → IsLegal (j ++ more) → list_all (λ e. not (is_by 1 e)) more ≡ true → Stands 1 j p → Stands 1 (j ++ more) p
stands_over p j more legal others was =
    let of = was.looked in
    let a = of.looks.acquiring in
    let known = known_since p.look.doc a of.early of.more j of.journal_is (legal_front j more legal) of.looks.last in
    along p more j (unused_by_others 1 p.look.token a of.looks.token_is (of.looks.seat_is ∙ was.seat_is) more j legal known others) was

pub held_among : (holds : List (Option Prepared)) (base look : List Entry) → IsLegal look → Among (is_by 1) base look → AreHeld 1 holds base → AreHeld 1 holds look
held_among holds base look legal among held = record {
  stands = λ session p at. subst (λ (j : List Entry). Stands 1 j p) (sym among.1) (stands_over p base among.0 (subst IsLegal among.1 legal) among.2 (held.stands session p at));
  apart = held.apart;
}

-- ---- the clients
pub clients_among : (clients : List Numbered) (base look : List Entry) → IsOwned 1 look → Among (is_by 1) base look → is_in 0 (closed base) ≡ false → AreOwnClientsOf 1 1 clients base → AreOwnClientsOf 1 1 clients look
clients_among clients base look owned among unclosed are = record { each = each }
  where
    same : (c : ℕ) → client c look ≡ client c base
    same c =
        client_among 1 c base look owned (subst (λ (s : ℕ). Among (is_by s) base look) (sym (owner_one c)) among)
        (subst (λ (d : ℕ). is_in d (closed base) ≡ false) (sym (driver_one c)) unclosed)

    each : (c : ℕ) (s : Numbered) → slice_get clients c ≡ Some s → (s.client ≡ c) × (client_owner 1 c ≡ 1 → IsClientOf look s)
    each c s at = let was = are.each c s at in (was.0, λ own. was.1 own ∙ sym (same s.client))

-- ---- what was handed out
handed_over : (j more : List Entry) → list_all (λ e. not (is_by 1 e)) more ≡ true → items_handed_by (is_by 1) (j ++ more) ≡ items_handed_by (is_by 1) j
handed_over j [] others = ap (items_handed_by (is_by 1)) (append-nil j)
handed_over j (e ∷ es) others =
    let both = and_parts (not (is_by 1 e)) (list_all (λ x. not (is_by 1 x)) es) others in
    ap (items_handed_by (is_by 1)) (sym (append_assoc j (e ∷ []) es)) ∙ handed_over (j ++ e ∷ []) es both.1
    ∙ handed_by-push (is_by 1) j e
    ∙ ap (λ (b : Bool). items_handed_by (is_by 1) j ++ (if b then items_of j e.act else [])) (not-true (is_by 1 e) both.0)
    ∙ append-nil (items_handed_by (is_by 1) j)

pub handed_among : (base look : List Entry) → Among (is_by 1) base look → items_handed_by (is_by 1) look ≡ items_handed_by (is_by 1) base
handed_among base look among = ap (items_handed_by (is_by 1)) among.1 ∙ handed_over base among.0 among.2
