-- A book after one entry more.
use Rattle.std.proofs.Common.{◌≡◌, ℕ, ◌+◌, ◌-◌, ◌≤◌, ◌<◌, List, [], ◌∷◌, ◌++◌, length, map, false, not, cond, refl, sym, ap, ap₂, ◌∙◌, subst, arith, append-nil, length-append}
use Rattle.std.specs.Prelude.{slice_get, Option, Some, None, ⊤, nat_lt, position, if◌then◌else◌}
use Rattle.std.specs.Str.{bytes_eq}
use Rattle.std.specs.List.{list_any, position_or_len}
use Rattle.std.proofs.lemmas.List.{length-map, map-append}
use Rattle.expiring_lock.specs.Locks.{LockState}
use Rattle.journal_entries.specs.Journals.{Journaled, entries, spare}
use Rattle.journal_entries.specs.declared.update.Update.{Update}
use Rattle.journal_entries.specs.declared.act.Act.{Act}
use Rattle.journal_entries.specs.declared.act.Act.TheVariants.{Made, Ticked, Joined as JoinedAct, Edited, Sent, Malformed, Got, Left as LeftAct, FlushFailed, Handed, Declined, Closed}
use Rattle.journal_entries.specs.declared.act.Entry.{Entry}
use Rattle.journal_rules.specs.Documents.{Making, is_named, making_of, makings, number_in, number_of, is_in, waiting}
use Rattle.journal_rules.specs.Locks.{acquiring_of, acquirings, clock, ticked}
use Rattle.journal_rules.specs.Legal.{IsAllowed, clock_end, closed, closed_by}
use Rattle.journal_rules.proofs.Pushing.{acquirings-push, acquirings-none, makings-push, makings-none, clock-push, clock-none, closed-push, closed-none}
use Rattle.journal_laws.proofs.Unmade.{unmade_waits}
use Rattle.project_histories.proofs.Lists.{none_passes}
use Rattle.book.specs.declared.document.Document.{Document}
use Rattle.book.specs.Standing.{AreDocuments, IsKeptAs, IsNew, IsQueued, Turns, one_for, owed_for}
use Rattle.book.specs.Shown.{IsBook, names_in, unclosed}
use Rattle.turn_rules.specs.Owning.{driver_count}
use Rattle.book.proofs.Owed.{owed_set, owed_push, closing, open_counts, none_closed}
use Rattle.book.proofs.Keeping.{Passes, kept_quiet, kept_set, kept_made, kept_none, here_sent}

abbrev pub name_by : Making → List ℕ
name_by m = m.name

-- an entry that makes no document leaves the names
pub no_name : (names names' : List (List ℕ)) (e : Entry) → names' ≡ names → making_of e.act ≡ [] → names' ≡ names ++ map name_by (making_of e.act)
no_name names names' e same none = same ∙ sym (ap (λ l. names ++ map name_by l) none ∙ append-nil names)

pub push_book : {names names' : List (List ℕ)} (before after : Journaled) (documents documents' : List Document) (now now' tokens tokens' owed owed' drivers : ℕ) (e : Entry)
    → IsBook before names documents now tokens owed drivers → names' ≡ names ++ map name_by (making_of e.act) → entries after ≡ entries before ++ e ∷ [] → AreDocuments documents' (entries before ++ e ∷ [])
    → now' ≡ ticked e.act now → now' ≤ clock_end → tokens' ≡ tokens + length (acquiring_of e.seat e.act)
    → owed_for documents' + unclosed (driver_count drivers) (closed (entries before) ++ closed_by e.act) ≤ owed' → owed' ≤ spare after
    → IsBook after names' documents' now' tokens' owed' drivers
push_book before after documents documents' now now' tokens tokens' owed owed' drivers e was called more stands now_is low tokens_are counted room =
    record {
      names_are = called ∙ ap (λ l. l ++ map name_by (making_of e.act)) was.names_are
          ∙ sym (ap names_in more ∙ ap (map name_by) (makings-push (entries before) e) ∙ map-append name_by (makings (entries before)) (making_of e.act));
      stands = subst (λ (j : List Entry). AreDocuments documents' j) (sym more) stands;
      now_is = now_is ∙ ap (ticked e.act) was.now_is ∙ sym (ap clock more ∙ clock-push (entries before) e);
      now_low = low;
      tokens_are = tokens_are ∙ ap (λ n. n + length (acquiring_of e.seat e.act)) was.tokens_are
          ∙ sym (ap (λ j. length (acquirings j)) more ∙ ap length (acquirings-push (entries before) e) ∙ length-append (acquirings (entries before)) (acquiring_of e.seat e.act));
      counted = subst (λ (l : List ℕ). owed_for documents' + unclosed (driver_count drivers) l ≤ owed') (sym (ap closed more ∙ closed-push (entries before) e)) counted;
      room = room;
    }

-- more spare room, and documents with more
pub same_book : {names names' : List (List ℕ)} (before after : Journaled) (documents documents' : List Document) (now tokens owed drivers : ℕ) → IsBook before names documents now tokens owed drivers → names' ≡ names → entries after ≡ entries before → spare before ≤ spare after → AreDocuments documents' (entries before) → owed_for documents' ≡ owed_for documents → IsBook after names' documents' now tokens owed drivers
same_book before after documents documents' now tokens owed drivers was called same grows stands owes =
    record {
      names_are = called ∙ was.names_are ∙ ap names_in (sym same);
      stands = subst (λ (j : List Entry). AreDocuments documents' j) (sym same) stands;
      now_is = was.now_is ∙ ap clock (sym same);
      now_low = was.now_low;
      tokens_are = was.tokens_are ∙ ap (λ j. length (acquirings j)) (sym same);
      counted = subst (λ (j : List Entry). owed_for documents' + unclosed (driver_count drivers) (closed j) ≤ owed) (sym same) (let c = was.counted in omega (arith, c, owes));
      room = let r = was.room in omega (arith, r, grows);
    }

-- ---- acts that say nothing of a document
abbrev pub IsQuiet : Act → Type 0
IsQuiet (Ticked ms) = ⊤
IsQuiet (Malformed doc fault) = ⊤
IsQuiet (FlushFailed doc token from to) = ⊤
IsQuiet (Handed project count) = ⊤
IsQuiet (Declined session why) = ⊤
IsQuiet (Closed driver) = ⊤
IsQuiet (JoinedAct client doc user track since source v) = ⊤
IsQuiet (Edited client comp) = ⊤
IsQuiet (Got client brief) = ⊤
IsQuiet (LeftAct client) = ⊤
IsQuiet _ = ⊥

record QuietFacts (seat : ℕ) (a : Act) : Type 0 where
  passes : (d : ℕ) → Passes d a
  makes : making_of a ≡ []
  takes : acquiring_of seat a ≡ []

quiet_facts : (seat : ℕ) (a : Act) → IsQuiet a → QuietFacts seat a
quiet_facts seat (Ticked ms) q = record { passes = λ d. tt; makes = refl; takes = refl }
quiet_facts seat (Malformed doc fault) q = record { passes = λ d. tt; makes = refl; takes = refl }
quiet_facts seat (FlushFailed doc token from to) q = record { passes = λ d. tt; makes = refl; takes = refl }
quiet_facts seat (Handed project count) q = record { passes = λ d. tt; makes = refl; takes = refl }
quiet_facts seat (Declined session why) q = record { passes = λ d. tt; makes = refl; takes = refl }
quiet_facts seat (Closed driver) q = record { passes = λ d. tt; makes = refl; takes = refl }
quiet_facts seat (JoinedAct client doc user track since source v) q = record { passes = λ d. tt; makes = refl; takes = refl }
quiet_facts seat (Edited client comp) q = record { passes = λ d. tt; makes = refl; takes = refl }
quiet_facts seat (Got client brief) q = record { passes = λ d. tt; makes = refl; takes = refl }
quiet_facts seat (LeftAct client) q = record { passes = λ d. tt; makes = refl; takes = refl }
quiet_facts seat _ q = absurd q

pub quiet_book : {names : List (List ℕ)} (before mid after : Journaled) (documents : List Document) (now now' tokens owed drivers sum : ℕ) (e : Entry)
    → IsBook before names documents now tokens owed drivers → entries mid ≡ entries before → sum ≡ owed + 1 → sum ≤ spare mid → entries after ≡ entries mid ++ e ∷ [] → spare after + 1 ≡ spare mid
    → IsAllowed (entries before) e.seat e.act → IsQuiet e.act → closed_by e.act ≡ [] → now' ≡ ticked e.act now → now' ≤ clock_end → IsBook after names documents now' tokens owed drivers
quiet_book {names} before mid after documents now now' tokens owed drivers sum e was same sum_is enough more less may quiet unclosing now_is low =
    let f = quiet_facts e.seat e.act quiet in
    let none = ap length f.takes in
    push_book before after documents documents now now' tokens tokens owed owed drivers e was (no_name names names e refl f.makes) (more ∙ ap (λ l. l ++ e ∷ []) same)
    (kept_quiet documents (entries before) e may f.passes f.makes was.stands) now_is low (omega (arith, none))
    (subst (λ (l : List ℕ). owed_for documents + unclosed (driver_count drivers) l ≤ owed) (sym (ap (λ l. closed (entries before) ++ l) unclosing ∙ append-nil (closed (entries before)))) was.counted)
    (omega (arith, sum_is, enough, less))

pub closed_book : {names : List (List ℕ)} (before after : Journaled) (documents : List Document) (now tokens owed drivers driver : ℕ) (e : Entry)
    → IsBook before names documents now tokens owed drivers → entries after ≡ entries before ++ e ∷ [] → spare after + 1 ≡ spare before → e.act ≡ Closed driver
    → driver < driver_count drivers → is_in driver (closed (entries before)) ≡ false → IsBook after names documents now tokens (owed - 1) drivers
closed_book {names} before after documents now tokens owed drivers driver e was more less is below not_yet =
    let f = quiet_facts e.seat e.act (subst IsQuiet (sym is) tt) in
    let none = ap length f.takes in
    let fewer = closing (driver_count drivers) driver (closed (entries before)) below not_yet in
    let counted = was.counted in
    let room = was.room in
    push_book before after documents documents now now tokens tokens owed (owed - 1) drivers e was (no_name names names e refl f.makes) more
    (kept_quiet documents (entries before) e (subst (IsAllowed (entries before) e.seat) (sym is) not_yet) f.passes f.makes was.stands) (ap (λ a. ticked a now) (sym is)) was.now_low (omega (arith, none))
    (subst (λ (a : Act). owed_for documents + unclosed (driver_count drivers) (closed (entries before) ++ closed_by a) ≤ owed - 1) (sym is) (omega (arith, fewer, counted)))
    (omega (arith, room, less))

-- a driver that hasn't closed is owed an entry
pub driver_owed : {names : List (List ℕ)} (before : Journaled) (documents : List Document) (now tokens owed drivers driver : ℕ) → IsBook before names documents now tokens owed drivers → driver < driver_count drivers → is_in driver (closed (entries before)) ≡ false → 1 ≤ owed
driver_owed before documents now tokens owed drivers driver was below not_yet =
    let one = open_counts (driver_count drivers) driver (closed (entries before)) below not_yet in
    let counted = was.counted in
    omega (arith, one, counted)

-- ---- a raw update
queued_owes : (documents documents' : List Document) (doc ticket : ℕ) (t : Turns doc (IsQueued ticket) documents documents') → owed_for documents' ≡ owed_for documents + 1
queued_owes documents documents' doc ticket t =
    let all = owed_set documents doc t.was t.now t.at in
    let s = ap owed_for t.set_is in
    let l = ap length t.is.waiting_is ∙ length-append t.was.waiting.items (ticket ∷ []) in
    let h : one_for t.now.lock.held ≡ one_for t.was.lock.held = ap (λ (k : LockState). one_for k.held) t.is.lock_is in
    omega (arith, all, s, l, h)

pub kept_owes : (documents documents' : List Document) (doc : ℕ) (t : Turns doc IsKeptAs documents documents') → owed_for documents' ≡ owed_for documents
kept_owes documents documents' doc t =
    let all = owed_set documents doc t.was t.now t.at in
    let s = ap owed_for t.set_is in
    let l = ap length t.is.waiting_is in
    let h : one_for t.now.lock.held ≡ one_for t.was.lock.held = ap (λ (k : LockState). one_for k.held) t.is.lock_is in
    omega (arith, all, s, l, h)

pub sent_book : {names names' : List (List ℕ)} (before mid after : Journaled) (documents documents' : List Document) (now tokens owed drivers sum ticket : ℕ) (u : Update) (e : Entry)
    → IsBook before names documents now tokens owed drivers → entries mid ≡ entries before → sum ≡ owed + 2 → sum ≤ spare mid → entries after ≡ entries mid ++ e ∷ [] → spare after + 1 ≡ spare mid
    → names' ≡ names → e.act ≡ Sent u → IsAllowed (entries before) e.seat (Sent u) → ticket ≡ length (entries mid) → Turns u.doc (IsQueued ticket) documents documents' → IsBook after names' documents' now tokens (sum - 1) drivers
sent_book {names} {names'} before mid after documents documents' now tokens owed drivers sum ticket u e was same sum_is enough more less called is may ticket_is t =
    let at : ticket ≡ length (entries before) = ticket_is ∙ ap length same in
    let turn : Turns u.doc (IsQueued (length (entries before))) documents documents' = subst (λ n. Turns u.doc (IsQueued n) documents documents') at t in
    let here = here_sent u.doc turn.was turn.now (entries before) e was.stands.legal (was.stands.each u.doc turn.was turn.at) u is refl turn.is in
    let stands = kept_set documents u.doc turn.was turn.now (entries before) e turn.at (subst (IsAllowed (entries before) e.seat) (sym is) may) (λ d apart. subst (Passes d) (sym is) apart) (ap making_of is) here was.stands in
    let none = ap (λ a. length (acquiring_of e.seat a)) is in
    let owes = queued_owes documents documents' u.doc ticket t in
    let counted = was.counted in
    push_book before after documents documents' now now tokens tokens owed (sum - 1) drivers e was (no_name names names' e called (ap making_of is)) (more ∙ ap (λ l. l ++ e ∷ []) same)
    (subst (λ (l : List Document). AreDocuments l (entries before ++ e ∷ [])) (sym turn.set_is) stands) (ap (λ a. ticked a now) (sym is)) was.now_low (omega (arith, none))
    (subst (λ (l : List ℕ). owed_for documents' + unclosed (driver_count drivers) l ≤ sum - 1) (sym (ap (λ a. closed (entries before) ++ closed_by a) is ∙ append-nil (closed (entries before)))) (omega (arith, owes, counted, sum_is)))
    (omega (arith, enough, less))

-- ---- a document that is made
pub made_book : {names : List (List ℕ)} (before mid after : Journaled) (documents : List Document) (new : Document) (now tokens owed drivers sum : ℕ) (e : Entry) (doc : ℕ) (name project first : List ℕ) (base : ℕ)
    → IsBook before names documents now tokens owed drivers → entries mid ≡ entries before → sum ≡ owed + 1 → sum ≤ spare mid → entries after ≡ entries mid ++ e ∷ [] → spare after + 1 ≡ spare mid
    → e.act ≡ Made doc name project first base → IsAllowed (entries before) e.seat (Made doc name project first base) → length documents < 1000 → IsNew new first base → IsBook after (names ++ name ∷ []) (documents ++ new ∷ []) now tokens owed drivers
made_book {names} before mid after documents new now tokens owed drivers sum e doc name project first base was same sum_is enough more less is may few is_new =
    let stands = kept_made documents new (entries before) e doc name project first base is may few is_new was.stands in
    let none = ap (λ a. length (acquiring_of e.seat a)) is in
    let pushed = owed_push documents new in
    let idle = ap length is_new.waiting_is in
    let free : one_for new.lock.held ≡ 0 = ap (λ (k : LockState). one_for k.held) is_new.lock_is in
    let counted = was.counted in
    push_book before after documents (documents ++ new ∷ []) now now tokens tokens owed owed drivers e was (ap (λ a. names ++ map name_by (making_of a)) (sym is)) (more ∙ ap (λ l. l ++ e ∷ []) same) stands (ap (λ a. ticked a now) (sym is)) was.now_low (omega (arith, none))
    (subst (λ (l : List ℕ). owed_for (documents ++ new ∷ []) + unclosed (driver_count drivers) l ≤ owed) (sym (ap (λ a. closed (entries before) ++ closed_by a) is ∙ append-nil (closed (entries before)))) (omega (arith, pushed, idle, free, counted)))
    (omega (arith, sum_is, enough, less))

-- ---- a new book
pub new_book : (journal : Journaled) (owed drivers : ℕ) → entries journal ≡ [] → owed ≡ driver_count drivers → owed ≤ spare journal → IsBook journal [] [] 0 0 owed drivers
new_book journal owed drivers empty owed_is room = record {
  names_are = sym (ap names_in empty ∙ ap (map name_by) makings-none);
  stands = subst (λ (j : List Entry). AreDocuments [] j) (sym empty) kept_none;
  now_is = sym (ap clock empty ∙ clock-none);
  now_low = omega arith;
  tokens_are = sym (ap (λ j. length (acquirings j)) empty ∙ ap length acquirings-none);
  counted = let c = ap (unclosed (driver_count drivers)) (ap closed empty ∙ closed-none) ∙ none_closed (driver_count drivers) in omega (arith, c, owed_is);
  room = room;
}

pub quiet_by : {names : List (List ℕ)} (before mid after : Journaled) (documents : List Document) (now now' tokens owed drivers sum seat : ℕ) (line : Option ℕ) (act : Act) (e : Entry) → e ≡ record { seat = seat; line = line; act = act }
    → IsBook before names documents now tokens owed drivers → entries mid ≡ entries before → (sum ≡ owed + 1) × (sum ≤ spare mid) → entries after ≡ entries mid ++ e ∷ [] → spare after + 1 ≡ spare mid
    → IsAllowed (entries before) seat act → IsQuiet act → closed_by act ≡ [] → now' ≡ ticked act now → now' ≤ clock_end → IsBook after names documents now' tokens owed drivers
quiet_by before mid after documents now now' tokens owed drivers sum seat line act e e_is was same enough more less may quiet unclosing now_is low =
    quiet_book before mid after documents now now' tokens owed drivers sum (record { seat = seat; line = line; act = act }) was same enough.0 enough.1 (more ∙ ap (λ x. entries mid ++ x ∷ []) e_is) less may quiet unclosing now_is low

-- ---- what waits
pub waits_as : (d : ℕ) (x : Document) (documents : List Document) (j : List Entry) → AreDocuments documents j → slice_get documents d ≡ Some x → length x.waiting.items ≡ length (waiting d j)
waits_as d x documents j were at = ap length (were.each d x at).waiting_is

pub waits_nowhere : (d : ℕ) (documents : List Document) (j : List Entry) → AreDocuments documents j → length documents ≤ d → length (waiting d j) ≡ 0
waits_nowhere d documents j were high = let c = were.count in ap length (unmade_waits d j were.legal (omega (arith, high, c)))

-- ---- names
pub unnamed : (name : List ℕ) (ms : List Making) → number_in name ms ≡ None → list_any (is_named name) ms ≡ false
unnamed name ms none = none_passes (is_named name) ms none

same_place : (name : List ℕ) (ms : List Making) → position_or_len (bytes_eq name) (map name_by ms) ≡ position_or_len (is_named name) ms
same_place name [] = refl
same_place name (m ∷ ms) = ap (λ k. cond (not (bytes_eq name m.name)) (1 + k) 0) (same_place name ms)

-- a document of a name has the same number in the book as in the journal
pub found_as : (name : List ℕ) (names : List (List ℕ)) (j : List Entry) → names ≡ names_in j → position (bytes_eq name) names ≡ number_of name j
found_as name names j are = ap (position (bytes_eq name)) are ∙ ap₂ (λ (n k : ℕ). if nat_lt n k then Some n else None) (same_place name (makings j)) (length-map (makings j) name_by)
