-- Behind what the one driver saw last nobody writes for a client.
use Rattle.std.proofs.Common.{◌≡◌, ℕ, ◌%◌, ◌<◌, List, [], ◌∷◌, ◌++◌, Bool, true, false, not, refl, sym, ap, ◌∙◌, subst, inl, inr, true≢false, arith, append_assoc, append-nil, eq-eqb, eqb-true}
use Rattle.std.specs.Prelude.{◌==◌, nat_lt, nat_le, Some}
use Rattle.std.specs.List.{list_all}
use Rattle.std.proofs.lemmas.Bool.{and_parts, not-true}
use Rattle.std.proofs.lemmas.List.Folds.{list_all-append}
use Rattle.std.proofs.lemmas.Nat.{mod_below}
use Rattle.journal_entries.specs.declared.act.Entry.{Entry}
use Rattle.journal_rules.specs.Client.{client}
use Rattle.journal_rules.proofs.Lists.{same_cut}
use Rattle.journal_rules.proofs.Pushing.{client-push}
use Rattle.session_lines.specs.declared.line.Line.{Line}
use Rattle.board.specs.Views.{SawAll}
use Rattle.turn_rules.specs.Owning.{IsOwned, IsByOwner, MayWriteFor, client_of}
use Rattle.turn_rules.proofs.Owning.{client_stays_by}
use Rattle.run_rules.specs.Threads.{driver_seat, flusher_seat, is_of_crew, is_by, with_workers, DriverFollows}
use Rattle.crew_rules.specs.Together.{GoesTogether}
use Rattle.crew_rules.proofs.Seen.{driver_grows, saw_among}

-- an entry of neither the one driver nor seat 0 is of no client
of_no_client : (c : ℕ) (j : List Entry) (e : Entry) → IsByOwner 1 j e.seat e.act → (e.seat == 1) ≡ false → (e.seat == 0) ≡ false → client_of e.act ≡ Some c → ⊥
of_no_client c j e own other first is = by (own.writes c is)
  where
    by : MayWriteFor 1 j e.seat c → ⊥
    by (inl mine) = let low : c % 1 < 1 = mod_below c 1 (omega arith) in true≢false (sym (eq-eqb e.seat 1 (omega (arith, mine, low))) ∙ other)
    by (inr last) = true≢false (sym (eq-eqb e.seat 0 last.0) ∙ first)

-- one of the crew isn't seat 0
not_first : (workers seat : ℕ) → is_of_crew (with_workers workers) seat ≡ true → (seat == 0) ≡ false
not_first workers seat is = go (seat == 0) refl
  where
    go : (b : Bool) → (seat == 0) ≡ b → b ≡ false
    go false e = refl
    go true e =
        let zero_is : seat ≡ 0 = eqb-true seat 0 e in
        absurd (true≢false (sym (and_parts (nat_lt 0 seat) (nat_le seat (flusher_seat (with_workers workers))) is).0 ∙ ap (nat_lt 0) zero_is))

clients_stay : (workers c : ℕ) (seen more : List Entry) → IsOwned 1 (seen ++ more) → list_all (λ e. not (is_by (driver_seat 0) e)) more ≡ true → list_all (λ e. is_of_crew (with_workers workers) e.seat) more ≡ true → client c (seen ++ more) ≡ client c seen
clients_stay workers c seen [] owned others crew = ap (client c) (append-nil seen)
clients_stay workers c seen (e ∷ es) owned others crew =
    let again : (seen ++ e ∷ []) ++ es ≡ seen ++ e ∷ es = append_assoc seen (e ∷ []) es in
    let other = and_parts (not (is_by (driver_seat 0) e)) (list_all (λ e. not (is_by (driver_seat 0) e)) es) others in
    let of = and_parts (is_of_crew (with_workers workers) e.seat) (list_all (λ e. is_of_crew (with_workers workers) e.seat) es) crew in
    let none = of_no_client c seen e (owned seen e es refl) (not-true (is_by (driver_seat 0) e) other.0) (not_first workers e.seat of.0) in
    ap (client c) (sym again) ∙ clients_stay workers c (seen ++ e ∷ []) es (subst (IsOwned 1) (sym again) owned) other.1 of.1 ∙ client-push c seen e ∙ client_stays_by c seen e.act (client c seen) none

-- what is behind a beginning is behind a later one too
all_behind : (p : Entry → Bool) (start between grown more : List Entry) → start ++ between ≡ (start ++ grown) ++ more → list_all p between ≡ true → list_all p more ≡ true
all_behind p start between grown more is all =
    let cut : between ≡ grown ++ more = (same_cut start between start (grown ++ more) (is ∙ append_assoc start grown more) refl).1 in
    (and_parts (list_all p grown) (list_all p more) (sym (list_all-append p grown more) ∙ ap (list_all p) (sym cut) ∙ all)).1

pub saw_clients : (workers : ℕ) (lines : List Line) (start seen journal : List Entry) → IsOwned 1 journal → GoesTogether (with_workers workers) lines start journal → DriverFollows (with_workers workers) lines start seen 0 → SawAll journal (driver_seat 0, seen) → (c : ℕ) → client c journal ≡ client c seen
saw_clients workers lines start seen journal owned t f saw c =
    let grown = driver_grows (with_workers workers) lines start seen 0 f in
    let among = saw_among (driver_seat 0) seen journal saw in
    let is : start ++ t.between ≡ (start ++ grown.0) ++ among.0 = sym t.journal_is ∙ among.1 ∙ ap (λ (j : List Entry). j ++ among.0) grown.1 in
    let crew = all_behind (λ e. is_of_crew (with_workers workers) e.seat) start t.between grown.0 among.0 is t.crew_only in
    ap (client c) among.1 ∙ clients_stay workers c seen among.0 (subst (IsOwned 1) among.1 owned) among.2 crew
