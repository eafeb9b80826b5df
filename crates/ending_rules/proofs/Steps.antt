-- The steps of the loops: one more drained update, drain, message, turn or round.
use Rattle.std.proofs.Common.{◌≡◌, ◌≢◌, ◌⊎◌, ℕ, suc, ◌<◌, ◌≤◌, List, [], ◌∷◌, ◌++◌, length, true, false, true≢false, refl, sym, ap, ◌∙◌, subst, inl, inr, arith, append-nil, append_assoc}
use Rattle.std.specs.Prelude.{Option, Some, None, Result, Ok, Err, OnOk}
use Rattle.std.proofs.lemmas.List.Elements.{All-append}
use Rattle.journal_entries.specs.declared.update.Update.{Update}
use Rattle.journal_entries.specs.declared.act.Act.{Act}
use Rattle.journal_entries.specs.declared.act.Act.TheVariants.{Sent, Got}
use Rattle.journal_entries.specs.declared.act.Entry.{Entry}
use Rattle.journal_rules.specs.declared.state.ClientState.{ClientState}
use Rattle.journal_rules.specs.declared.state.ClientState.TheVariants.{Away, Joined, Left, Stale}
use Rattle.journal_rules.specs.Documents.{Making, makings, update_of, waiting}
use Rattle.journal_rules.specs.Locks.{Acquiring, acquired_by, clock}
use Rattle.journal_rules.specs.Mail.{mail}
use Rattle.journal_rules.specs.Client.{client, sending}
use Rattle.journal_rules.specs.Legal.{IsAllowed, IsLegal}
use Rattle.journal_rules.proofs.Legality.{allowed_next}
use Rattle.journal_rules.proofs.Waits.{all_none, all_one}
use Rattle.ending_rules.specs.Rounds.{AreClients, needs_round}
use Rattle.ending_rules.proofs.Shapes.{is_of_drain, is_got_by, IsSentOnce, IsDrain, HasItsTurn, IsTurnOf, IsTurn, AreTurns, IsRound}
use Rattle.ending_rules.specs.Ended.{AreAnswered, HasEnded}
use Rattle.ending_rules.specs.Drained.{TakesFirst}
use Rattle.ending_rules.proofs.Drained.{IsFree}
use Rattle.ending_rules.proofs.Between.{IsReady, DrainsNext, DrainsSome, Drains, DrainsBelow, GetsNext, GetsSome, SendsOnce, TakesTurn, TakeTurnsBelow, GoesRound, GoesRounds, GoesLastRounds}
use Rattle.ending_rules.proofs.Apart.{got_is}
use Rattle.ending_rules.proofs.Refusals.{got_mail}
use Rattle.ending_rules.proofs.Stages.{answered_stay}
use Rattle.ending_rules.proofs.Drains.{drainings, drained_all, drained_makings, some_makings, none_waits, all_answered}
use Rattle.ending_rules.proofs.Locks.{update_of_drain, update_leaves, free_stays}
use Rattle.ending_rules.proofs.Rounding.{by_turn, bystood_answered, suffice}
use Rattle.turn_rules.specs.Clients.{is_joined}

pub joined_lists : (a b c x y : List Entry) → b ≡ a ++ x → c ≡ b ++ y → c ≡ a ++ (x ++ y)
joined_lists a b c x y is more = more ∙ ap (λ l. l ++ y) is ∙ append_assoc a x y

-- ---- a drain
abbrev IsOf : ℕ → Entry → Type 0
IsOf d e = is_of_drain d e.act ≡ true

pub none_drained : (d : ℕ) (a : List Entry) → DrainsSome d a a
none_drained d a = ([], sym (append-nil a), all_none (IsOf d))

pub some_drained : (d : ℕ) (a b c : List Entry) → DrainsSome d a b → DrainsNext d b c true → DrainsSome d a c
some_drained d a b c x y = (x.0 ++ y.0, joined_lists a b c x.0 y.0 x.1 y.1, All-append (IsOf d) x.0 y.0 x.2 (update_of_drain d y.0 y.2))

pub ready_drained : (d : ℕ) (b c : List Entry) → IsReady b → IsLegal c → DrainsNext d b c true → IsReady c
ready_drained d b c was legal y =
    let at : IsLegal (b ++ y.0) = subst IsLegal y.1 legal in
    record { legal = legal; free = λ k. subst (IsFree k) (sym y.1) ((update_leaves d b y.0 at y.2).1 k (was.free k)) }

pub fewer_wait : (d : ℕ) (b c : List Entry) → IsLegal c → DrainsNext d b c true → length (waiting d c) < length (waiting d b)
fewer_wait d b c legal y =
    let t : TakesFirst d b (b ++ y.0) = (update_leaves d b y.0 (subst IsLegal y.1 legal) y.2).0 in
    let one : length (waiting d b) ≡ suc (length t.rest) = ap length t.waited in
    let two : length (waiting d c) ≡ length t.rest = ap (λ j. length (waiting d j)) y.1 ∙ ap length t.waits in
    omega (arith, one, two)

pub some_made : (d : ℕ) (a b : List Entry) → IsLegal b → DrainsSome d a b → makings b ≡ makings a
some_made d a b legal x = ap makings x.1 ∙ some_makings d a x.0 (subst IsLegal x.1 legal) x.2

pub drain_ends : (d : ℕ) (a b c : List Entry) → DrainsSome d a b → DrainsNext d b c false → Drains d a c
drain_ends d a b c x y = (x.0, y.0 ∙ x.1, record { only = x.2; settled = ap (waiting d) (sym x.1) ∙ y.1 })

pub ready_same : (b c : List Entry) → IsReady b → c ≡ b → IsReady c
ready_same b c was same = subst IsReady (sym same) was

-- ---- drains
pub no_drains : (a : List Entry) → DrainsBelow 0 a a
no_drains a = ([], sym (append-nil a), refl)

pub drains_more : (d n : ℕ) (a b c : List Entry) → n ≡ suc d → DrainsBelow d a b → Drains d b c → DrainsBelow n a c
drains_more d n a b c is x y = subst (λ m. DrainsBelow m a c) (sym is) (x.0 ++ y.0, joined_lists a b c x.0 y.0 x.1 y.1, (x.0, y.0, refl, x.2, subst (λ (h : List Entry). IsDrain d h y.0) x.1 y.2))

-- draining makes no document
pub same_makings : (n : ℕ) (a b : List Entry) → IsLegal b → DrainsBelow n a b → makings b ≡ makings a
same_makings n a b legal x = ap makings x.1 ∙ drained_makings a x.0 (subst IsLegal x.1 legal) (drainings n a x.0 x.2)

-- ---- a turn
abbrev IsGotBy : ℕ → Entry → Type 0
IsGotBy c e = is_got_by c e.act ≡ true

pub none_got : (c : ℕ) (a : List Entry) → GetsSome c a a
none_got c a = ([], sym (append-nil a), all_none (IsGotBy c))

pub some_got : (c : ℕ) (h j k : List Entry) → GetsSome c h j → GetsNext c j k true → GetsSome c h k
some_got c h j k x y = (x.0 ++ y.0 ∷ [], joined_lists h j k x.0 (y.0 ∷ []) x.1 y.1, All-append (IsGotBy c) x.0 (y.0 ∷ []) x.2 (all_one (IsGotBy c) y.0 y.2))

-- entries of a turn take no lock
takes_not : (a : Act) → ((c : ℕ) × (is_got_by c a ≡ true)) ⊎ ((u : Update) × (a ≡ Sent u)) → (k seat : ℕ) (l : Option Acquiring) → acquired_by k seat a l ≡ l
takes_not a (inl g) k seat l = let b = got_is g.0 a g.1 in ap (λ x. acquired_by k seat x l) b.1
takes_not a (inr s) k seat l = ap (λ x. acquired_by k seat x l) s.1

ready_on : (j k : List Entry) (e : Entry) → IsReady j → IsLegal k → k ≡ j ++ e ∷ [] → ((d seat : ℕ) (l : Option Acquiring) → acquired_by d seat e.act l ≡ l) → IsReady k
ready_on j k e was legal is takes = record { legal = legal; free = λ d. subst (IsFree d) (sym is) (free_stays d j e (takes d) (was.free d)) }

pub ready_got : (c : ℕ) (j k : List Entry) → IsReady j → IsLegal k → GetsNext c j k true → IsReady k
ready_got c j k was legal y = ready_on j k y.0 was legal y.1 (takes_not y.0.act (inl (c, y.2)))

pub ready_sent : (c : ℕ) (j k : List Entry) → IsReady j → IsLegal k → SendsOnce c j k → IsReady k
ready_sent c j k was legal y = go (sending c (client c j) (clock j)) y.2
  where
    go : (o : Option Update) → IsSentOnce o y.0 → IsReady k
    go None none = ready_same j k was (y.1 ∙ ap (λ l. j ++ l) none ∙ append-nil j)
    go (Some u) one = ready_on j k one.0 was legal (y.1 ∙ ap (λ l. j ++ l) one.1) (takes_not one.0.act (inr (u, one.2)))

pub less_mail : (c : ℕ) (j k : List Entry) → IsLegal k → GetsNext c j k true → length (mail c k) < length (mail c j)
less_mail c j k legal y =
    let g = got_is c y.0.act y.2 in
    let row : IsAllowed j y.0.seat (Got c g.0) = subst (λ a. IsAllowed j y.0.seat a) g.1 (allowed_next j y.0 [] (subst IsLegal y.1 legal)) in
    let one : length (mail c j) ≡ suc (length row.rest) = ap length row.first in
    let two : length (mail c k) ≡ length row.rest = ap (λ h. length (mail c h)) y.1 ∙ ap length (got_mail c j y.0 g.0 row.message row.rest g.1 row.first) in
    omega (arith, one, two)

turn_as : (st : ClientState) → is_joined st ≡ true → (c : ℕ) (h es : List Entry) → HasItsTurn c h es → IsTurnOf st c h es
turn_as Joined j c h es t = t
turn_as Away j c h es t = absurd (true≢false (sym j))
turn_as Left j c h es t = absurd (true≢false (sym j))
turn_as Stale j c h es t = absurd (true≢false (sym j))

turn_none : (st : ClientState) → is_joined st ≡ false → (c : ℕ) (h : List Entry) → IsTurnOf st c h []
turn_none Joined j c h = absurd (true≢false j)
turn_none Away j c h = refl
turn_none Left j c h = refl
turn_none Stale j c h = refl

pub no_turn : (c : ℕ) (h : List Entry) → is_joined (client c h).state ≡ false → TakesTurn c h h
no_turn c h gone = ([], sym (append-nil h), turn_none (client c h).state gone c h)

pub turn_ends : (c : ℕ) (h i j k : List Entry) → is_joined (client c h).state ≡ true → GetsSome c h i → GetsNext c i j false → SendsOnce c j k → TakesTurn c h k
turn_ends c h i j k joined x y z =
    let at : j ≡ h ++ x.0 = y.0 ∙ x.1 in (
      x.0 ++ z.0,
      joined_lists h j k x.0 z.0 at z.1,
      turn_as (client c h).state joined c h (x.0 ++ z.0) (record {
        gets = x.0;
        sends = z.0;
        cut = refl;
        only = x.2;
        emptied = ap (mail c) (sym x.1) ∙ y.1;
        sends_is = subst (λ (l : List Entry). IsSentOnce (sending c (client c l) (clock l)) z.0) at z.2;
      }),
    )

-- ---- turns and rounds
pub no_turns : (a : List Entry) → TakeTurnsBelow 0 a a
no_turns a = ([], sym (append-nil a), refl)

pub turns_more : (c n : ℕ) (h j k : List Entry) → n ≡ suc c → TakeTurnsBelow c h j → TakesTurn c j k → TakeTurnsBelow n h k
turns_more c n h j k is x y = subst (λ m. TakeTurnsBelow m h k) (sym is) (x.0 ++ y.0, joined_lists h j k x.0 y.0 x.1 y.1, (x.0, y.0, refl, x.2, subst (λ (h : List Entry). IsTurn c h y.0) x.1 y.2))

pub round_of : (clients : ℕ) (a b c : List Entry) → needs_round clients a ≡ true → DrainsBelow (length (makings a)) a b → TakeTurnsBelow clients b c → GoesRound clients a c
round_of clients a b c needed x y = (x.0 ++ y.0, joined_lists a b c x.0 y.0 x.1 y.1, record { needed = needed; drained = x.0; turned = y.0; cut = refl; drains = x.2; turns = subst (λ (h : List Entry). AreTurns clients h y.0) x.1 y.2 })

pub no_rounds : (clients : ℕ) (a : List Entry) → GoesRounds clients 0 a a
no_rounds clients a = ([], sym (append-nil a), refl)

pub rounds_more : (clients r n : ℕ) (a b c : List Entry) → n ≡ suc r → GoesRounds clients r a b → GoesRound clients b c → GoesRounds clients n a c
rounds_more clients r n a b c is x y = subst (λ m. GoesRounds clients m a c) (sym is) (x.0 ++ y.0, joined_lists a b c x.0 y.0 x.1 y.1, (x.0, y.0, refl, x.2, subst (λ (h : List Entry). IsRound clients h y.0) x.1 y.2))

pub last_rounds_of : (clients n : ℕ) (a b : List Entry) → n ≤ 3 → GoesRounds clients n a b → (n ≡ 3) ⊎ (needs_round clients b ≡ false) → GoesLastRounds clients a b
last_rounds_of clients n a b few x enough = (x.0, x.1, record { rounds = n; few = few; are = x.2; enough = subst (λ (j : List Entry). (n ≡ 3) ⊎ (needs_round clients j ≡ false)) x.1 enough })

pub ended_by : (clients : ℕ) (a b : List Entry) → IsLegal b → AreClients clients a → GoesLastRounds clients a b → HasEnded b
ended_by clients a b legal beyond x = subst HasEnded (sym x.1) (suffice clients a x.0 (subst IsLegal x.1 legal) beyond x.2)

-- two facts of a value give a third
pub on_both : {T E : Type 0} {P Q R : Type 0} (r : Result T E) → (P → Q → R) → OnOk r P → OnOk r Q → OnOk r R
on_both (Ok x) f p q = f p q
on_both (Err e) f p q = tt

-- ---- which updates have their outcome
pub answered_got : (c : ℕ) (j k : List Entry) → IsLegal k → GetsNext c j k true → AreAnswered c j → AreAnswered c k
answered_got c j k legal y all =
    let g = got_is c y.0.act y.2 in
    subst (AreAnswered c) (sym y.1) (answered_stay c j y.0 (allowed_next j y.0 [] (subst IsLegal y.1 legal)) (λ u sent mine. (let f : None ≡ Some u = sym (ap update_of g.1) ∙ sent in cc)) all)

pub answered_turn : (n c : ℕ) (j k : List Entry) → n ≢ c → IsLegal k → TakesTurn n j k → AreAnswered c j → AreAnswered c k
answered_turn n c j k apart legal y all = subst (AreAnswered c) (sym y.1) (bystood_answered c j y.0 (subst IsLegal y.1 legal) (by_turn c n j y.0 apart y.2) all)

pub answered_all : (a b : List Entry) → IsLegal b → DrainsBelow (length (makings a)) a b → (c : ℕ) → AreAnswered c b
answered_all a b legal x =
    let at : IsLegal (a ++ x.0) = subst IsLegal x.1 legal in
    let made : makings b ≡ makings a = same_makings (length (makings a)) a b legal x in
    let none : (d : ℕ) → waiting d b ≡ [] = none_waits b legal (λ d lt. ap (waiting d) x.1 ∙ drained_all (length (makings a)) a x.0 at x.2 d (subst (λ (l : List Making). d < length l) made lt)) in
    all_answered b legal none
