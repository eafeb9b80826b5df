-- Behind the last round.
use Rattle.std.proofs.Common.{◌≡◌, ◌⊎◌, ℕ, suc, zero, ◌<◌, List, [], ◌++◌, length, Bool, true, false, true≢false, ◌&&◌, ◌||◌, refl, sym, ap, ◌∙◌, inl, inr, ⊎_elim, arith, append-nil}
use Rattle.std.specs.Prelude.{Option, Some, None}
use native.Mathlib.Decide.{ℕ_discrete}
use Rattle.ot_op.specs.declared.comp.Comp.{Comp}
use Rattle.ot_op.specs.Apply.{applied_all}
use Rattle.journal_entries.specs.declared.act.Entry.{Entry}
use Rattle.journal_rules.specs.declared.state.ClientState.TheVariants.{Joined}
use Rattle.journal_rules.specs.Documents.{makings, applied_list, first, replayed, waiting}
use Rattle.journal_rules.specs.Mail.{mail}
use Rattle.journal_rules.specs.Client.{client, has_flight}
use Rattle.journal_laws.specs.ClientLaw.{flown}
use Rattle.journal_rules.specs.Legal.{IsLegal}
use Rattle.journal_rules.proofs.Lists.{some_same}
use Rattle.journal_rules.proofs.Replaying.{ops}
use Rattle.journal_laws.proofs.World.{IsWell, joined_alive}
use Rattle.journal_laws.proofs.Everything.{world}
use Rattle.ending_rules.specs.Rounds.{has_any, any_below, is_unfinished, needs_round}
use Rattle.ending_rules.specs.Ended.{IsDone, IsStuck, Rests, HasEnded}
use Rattle.ending_rules.proofs.Answered.{has_none, drained_answered}
use Rattle.ending_rules.proofs.Stages.{IsSilent, IsVoid, AllAnswered, nothing_ahead, not_sent_now}
use Rattle.turn_rules.specs.Clients.{is_joined}
use Rattle.journal_laws.proofs.Updates.{or_false}

rests : (c : ℕ) (j : List Entry) → IsLegal j → AllAnswered c j → (st : (client c j).state ≡ Joined) → mail c j ≡ [] → IsSilent (client c j) ⊎ IsVoid c j (client c j) → Rests c j (client c j)
rests c j legal answered st none left =
    let x : IsWell c j (client c j) = (world j legal).clients c (joined_alive (client c j).state st) in
    let ahead : x.ahead ≡ [] = nothing_ahead c j legal st none in
    let list : applied_list (client c j).doc j ≡ x.seen = x.alive.split ∙ ap (λ l. x.seen ++ l) ahead ∙ append-nil x.seen in
    let at = x.alive.at in
    let long : length (applied_list (client c j).doc j) ≡ length x.seen = ap length list in
    record {
      no_mail = none;
      at = omega (arith, at, long);
      here = x.alive.here;
      here_is = ap (λ l. replayed (first (client c j).doc j) (ops l)) list ∙ x.alive.here_is;
      rests = ⊎_elim {C = IsDone x.alive.here (client c j) ⊎ IsStuck c j x.alive.here (client c j)}
          (λ silent.
          let same : x.alive.here ≡ x.alive.there = some_same x.alive.here x.alive.there (ap (flown x.alive.here) (sym silent.0) ∙ x.alive.flight_is) in
          let shown : x.alive.there ≡ (client c j).text = some_same x.alive.there (client c j).text (ap (applied_all x.alive.there) (sym silent.1) ∙ x.alive.text_is) in
          inl (record { no_flight = silent.0; nothing_pending = silent.1; text_is = sym shown ∙ sym same }))
          (λ void.
          let same : x.alive.here ≡ x.alive.there = some_same x.alive.here x.alive.there (ap (flown x.alive.here) (sym void.0) ∙ x.alive.flight_is) in
          inr (record {
            empty_flight = void.0;
            refused = void.1;
            elsewhere = λ t u known own number source. not_sent_now c j legal st none answered (ap has_flight void.0) (record { t = t; u = u; known = known; own = own; number_is = number; source_is = source });
            text_is = ap (λ (t : List ℕ). applied_all t (client c j).pending) same ∙ x.alive.text_is;
          }))
          left;
    }

pub settles : (j : List Entry) → IsLegal j → ((d : ℕ) → waiting d j ≡ []) → ((c : ℕ) → (client c j).state ≡ Joined → (mail c j ≡ []) × (IsSilent (client c j) ⊎ IsVoid c j (client c j))) → HasEnded j
settles j legal none clients = record {
  answered = λ t u known. drained_answered j legal t u known (none u.doc);
  settled = none;
  clients = λ c st. (let r = clients c st in rests c j legal (λ t u known own. drained_answered j legal t u known (none u.doc)) st r.0 r.1);
}

none_below : (p : ℕ → Bool) (n : ℕ) → any_below p n ≡ false → (k : ℕ) → k < n → p k ≡ false
none_below p zero e k lt = absurd (omega arith)
none_below p (suc n) e k lt = let r = or_false (any_below p n) (p n) e in go r.1 (λ less. none_below p n r.0 k less) (ℕ_discrete k n)
  where
    go : p n ≡ false → (k < n → p k ≡ false) → Dec (k ≡ n) → p k ≡ false
    go last earlier (yes same) = ap p same ∙ last
    go last earlier (no apart) = earlier (omega (arith, lt, apart))

pub idle_waits : (clients : ℕ) (j : List Entry) → needs_round clients j ≡ false → (d : ℕ) → d < length (makings j) → waiting d j ≡ []
idle_waits clients j idle d lt =
    has_none (waiting d j) (none_below (λ d. has_any (waiting d j)) (length (makings j)) (or_false (any_below (λ d. has_any (waiting d j)) (length (makings j))) (any_below (λ c. is_unfinished c j) clients) idle).0 d lt)

pub idle_client : (clients : ℕ) (j : List Entry) → needs_round clients j ≡ false → (c : ℕ) → c < clients → (client c j).state ≡ Joined → (mail c j ≡ []) × IsSilent (client c j)
idle_client clients j idle c lt st =
    let un : is_unfinished c j ≡ false = none_below (λ c. is_unfinished c j) clients (or_false (any_below (λ d. has_any (waiting d j)) (length (makings j))) (any_below (λ c. is_unfinished c j) clients) idle).1 c lt in
    let all : (has_any (mail c j) || has_flight (client c j).flight || has_any (client c j).pending) ≡ false =
    sym (ap (λ s. is_joined s && (has_any (mail c j) || has_flight (client c j).flight || has_any (client c j).pending)) st) ∙ un in
    let one = or_false (has_any (mail c j) || has_flight (client c j).flight) (has_any (client c j).pending) all in
    let two = or_false (has_any (mail c j)) (has_flight (client c j).flight) one.0 in
    (has_none (mail c j) two.0, (no_flight (client c j).flight two.1, has_none (client c j).pending one.1))
  where
    no_flight : (f : Option (List Comp)) → has_flight f ≡ false → f ≡ None
    no_flight None e = refl
    no_flight (Some f) e = absurd (true≢false e)
