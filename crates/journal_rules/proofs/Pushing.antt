-- One entry more: the two laws of folds, and from them the law of each word.
use Rattle.std.proofs.Common.{◌≡◌, ℕ, List, [], ◌∷◌, ◌++◌, length, refl, sym, ap, ◌∙◌, append-nil, append_assoc}
use Rattle.std.specs.Prelude.{if◌then◌else◌, false, None}
use Rattle.journal_entries.specs.declared.act.Entry.{Entry}
use Rattle.journal_rules.specs.Folds.{gathered_behind, gathered, folded_behind, folded}
use Rattle.journal_rules.specs.Documents.{making_of, makings, items_by, applied_list, sends, sent, ticket_of, committed}
use Rattle.journal_rules.specs.Locks.{ticked, clock, acquiring_of, acquirings, acquired_by, last_acquiring, released_by, released, used_by, used}
use Rattle.journal_rules.specs.Mail.{outbox_by, outbox}
use Rattle.journal_rules.specs.Client.{away, client_by, client}
use Rattle.journal_rules.specs.Keeping.{kept_by, kept, cached_by, cached, loading_by, NeverTried, loading, fault_of, faults}
use Rattle.journal_rules.specs.History.{history_by, all_history, handed_by, handed}
use Rattle.journal_rules.specs.Legal.{closed_by, closed}

gathered_behind-push : {X : Type 0} (gives : List Entry → Entry → List X) (before es : List Entry) (e : Entry) → gathered_behind gives before (es ++ e ∷ []) ≡ gathered_behind gives before es ++ gives (before ++ es) e
gathered_behind-push gives before [] e = append-nil (gives before e) ∙ ap (λ (b : List Entry). gives b e) (sym (append-nil before))
gathered_behind-push gives before (x ∷ xs) e =
    ap (λ l. gives before x ++ l) (gathered_behind-push gives (before ++ x ∷ []) xs e ∙ ap (λ (b : List Entry). gathered_behind gives (before ++ x ∷ []) xs ++ gives b e) (append_assoc before (x ∷ []) xs))
    ∙ sym (append_assoc (gives before x) (gathered_behind gives (before ++ x ∷ []) xs) (gives (before ++ x ∷ xs) e))

pub gathered-push : {X : Type 0} (gives : List Entry → Entry → List X) (j : List Entry) (e : Entry) → gathered gives (j ++ e ∷ []) ≡ gathered gives j ++ gives j e
gathered-push gives j e = gathered_behind-push gives [] j e

folded_behind-push : {S : Type 0} (changes : List Entry → Entry → S → S) (before : List Entry) (now : S) (es : List Entry) (e : Entry) → folded_behind changes before now (es ++ e ∷ []) ≡ changes (before ++ es) e (folded_behind changes before now es)
folded_behind-push changes before now [] e = ap (λ (b : List Entry). changes b e now) (sym (append-nil before))
folded_behind-push changes before now (x ∷ xs) e =
    folded_behind-push changes (before ++ x ∷ []) (changes before x now) xs e
    ∙ ap (λ (b : List Entry). changes b e (folded_behind changes (before ++ x ∷ []) (changes before x now) xs)) (append_assoc before (x ∷ []) xs)

pub folded-push : {S : Type 0} (changes : List Entry → Entry → S → S) (now : S) (j : List Entry) (e : Entry) → folded changes now (j ++ e ∷ []) ≡ changes j e (folded changes now j)
folded-push changes now j e = folded_behind-push changes [] now j e

pub makings-push : (j : List Entry) (e : Entry) → makings (j ++ e ∷ []) ≡ makings j ++ making_of e.act
unfolding makings
makings-push j e = gathered-push (λ before e. making_of e.act) j e

pub makings_still : (j : List Entry) (e : Entry) → making_of e.act ≡ [] → makings (j ++ e ∷ []) ≡ makings j
makings_still j e none = makings-push j e ∙ ap (λ l. makings j ++ l) none ∙ append-nil (makings j)

pub applied_list-push : (d : ℕ) (j : List Entry) (e : Entry) → applied_list d (j ++ e ∷ []) ≡ applied_list d j ++ items_by d j e.act
unfolding applied_list
applied_list-push d j e = gathered-push (λ before e. items_by d before e.act) j e

pub sent-push : (d : ℕ) (j : List Entry) (e : Entry) → sent d (j ++ e ∷ []) ≡ sent d j ++ (if sends d e.act then length j ∷ [] else [])
unfolding sent
sent-push d j e = gathered-push (λ before e. if sends d e.act then length before ∷ [] else []) j e

pub committed-push : (j : List Entry) (e : Entry) → committed (j ++ e ∷ []) ≡ committed j ++ ticket_of e.act
unfolding committed
committed-push j e = gathered-push (λ before e. ticket_of e.act) j e

pub acquirings-push : (j : List Entry) (e : Entry) → acquirings (j ++ e ∷ []) ≡ acquirings j ++ acquiring_of e.seat e.act
unfolding acquirings
acquirings-push j e = gathered-push (λ before e. acquiring_of e.seat e.act) j e

pub released-push : (j : List Entry) (e : Entry) → released (j ++ e ∷ []) ≡ released j ++ released_by e.act
unfolding released
released-push j e = gathered-push (λ before e. released_by e.act) j e

pub used-push : (j : List Entry) (e : Entry) → used (j ++ e ∷ []) ≡ used j ++ used_by e.act
unfolding used
used-push j e = gathered-push (λ before e. used_by e.act) j e

pub all_history-push : (p : List ℕ) (j : List Entry) (e : Entry) → all_history p (j ++ e ∷ []) ≡ all_history p j ++ history_by p j e.act
unfolding all_history
all_history-push p j e = gathered-push (λ before e. history_by p before e.act) j e

pub handed-push : (p : List ℕ) (j : List Entry) (e : Entry) → handed p (j ++ e ∷ []) ≡ handed p j ++ handed_by p e.act
unfolding handed
handed-push p j e = gathered-push (λ before e. handed_by p e.act) j e

pub faults-push : (j : List Entry) (e : Entry) → faults (j ++ e ∷ []) ≡ faults j ++ fault_of e.act
unfolding faults
faults-push j e = gathered-push (λ before e. fault_of e.act) j e

pub closed-push : (j : List Entry) (e : Entry) → closed (j ++ e ∷ []) ≡ closed j ++ closed_by e.act
unfolding closed
closed-push j e = gathered-push (λ before e. closed_by e.act) j e

pub clock-push : (j : List Entry) (e : Entry) → clock (j ++ e ∷ []) ≡ ticked e.act (clock j)
unfolding clock
clock-push j e = folded-push (λ before e now. ticked e.act now) 0 j e

pub last_acquiring-push : (d : ℕ) (j : List Entry) (e : Entry) → last_acquiring d (j ++ e ∷ []) ≡ acquired_by d e.seat e.act (last_acquiring d j)
unfolding last_acquiring
last_acquiring-push d j e = folded-push (λ before e now. acquired_by d e.seat e.act now) None j e

pub outbox-push : (c : ℕ) (j : List Entry) (e : Entry) → outbox c (j ++ e ∷ []) ≡ outbox_by c j e.act (outbox c j)
unfolding outbox
outbox-push c j e = folded-push (λ before e now. outbox_by c before e.act now) None j e

pub client-push : (c : ℕ) (j : List Entry) (e : Entry) → client c (j ++ e ∷ []) ≡ client_by c j e.act (client c j)
unfolding client
client-push c j e = folded-push (λ before e now. client_by c before e.act now) away j e

pub kept-push : (d : ℕ) (j : List Entry) (e : Entry) → kept d (j ++ e ∷ []) ≡ kept_by d e.act (kept d j)
unfolding kept
kept-push d j e = folded-push (λ before e now. kept_by d e.act now) None j e

pub cached-push : (d : ℕ) (j : List Entry) (e : Entry) → cached d (j ++ e ∷ []) ≡ cached_by d e.act (cached d j)
unfolding cached
cached-push d j e = folded-push (λ before e now. cached_by d e.act now) false j e

pub loading-push : (d : ℕ) (j : List Entry) (e : Entry) → loading d (j ++ e ∷ []) ≡ loading_by d e.act (loading d j)
unfolding loading
loading-push d j e = folded-push (λ before e now. loading_by d e.act now) NeverTried j e

-- the empty journal
pub makings-none : makings [] ≡ []
unfolding makings
makings-none = refl

pub applied_list-none : (d : ℕ) → applied_list d [] ≡ []
unfolding applied_list
applied_list-none d = refl

pub sent-none : (d : ℕ) → sent d [] ≡ []
unfolding sent
sent-none d = refl

pub committed-none : committed [] ≡ []
unfolding committed
committed-none = refl

pub acquirings-none : acquirings [] ≡ []
unfolding acquirings
acquirings-none = refl

pub released-none : released [] ≡ []
unfolding released
released-none = refl

pub used-none : used [] ≡ []
unfolding used
used-none = refl

pub all_history-none : (p : List ℕ) → all_history p [] ≡ []
unfolding all_history
all_history-none p = refl

pub handed-none : (p : List ℕ) → handed p [] ≡ []
unfolding handed
handed-none p = refl

pub faults-none : faults [] ≡ []
unfolding faults
faults-none = refl

pub closed-none : closed [] ≡ []
unfolding closed
closed-none = refl

pub clock-none : clock [] ≡ 0
unfolding clock
clock-none = refl

pub last_acquiring-none : (d : ℕ) → last_acquiring d [] ≡ None
unfolding last_acquiring
last_acquiring-none d = refl

pub outbox-none : (c : ℕ) → outbox c [] ≡ None
unfolding outbox
outbox-none c = refl

pub client-none : (c : ℕ) → client c [] ≡ away
unfolding client
client-none c = refl

pub kept-none : (d : ℕ) → kept d [] ≡ None
unfolding kept
kept-none d = refl

pub cached-none : (d : ℕ) → cached d [] ≡ false
unfolding cached
cached-none d = refl

pub loading-none : (d : ℕ) → loading d [] ≡ NeverTried
unfolding loading
loading-none d = refl
