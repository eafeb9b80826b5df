-- What the lines that were done leave.
use Rattle.std.proofs.Common.{◌≡◌, ◌≢◌, ◌⊎◌, ℕ, zero, suc, ◌+◌, ◌-◌, ◌≤◌, ◌<◌, List, [], ◌∷◌, ◌++◌, length, take, Bool, true, false, true≢false, ◌||◌, ◌&&◌, not, refl, sym, ap, ◌∙◌, subst, inl, inr, arith, append-nil, append_assoc, All, eq-eqb}
use Rattle.std.specs.Prelude.{Option, Some, None, Result, Ok, Err, OnOk, IfOk, ◌==◌, is_some, map, slice_get, option_and_then, position, cond, nat_lt, if◌then◌else◌}
use Rattle.std.specs.Global.{Vec}
use Rattle.std.specs.Result.{is_ok}
use Rattle.std.specs.List.{list_all, list_any, position_or_len}
use Rattle.std.proofs.Math.Bool.{or-true}
use Rattle.std.proofs.lemmas.Bool.{and_parts, le-ltb}
use Rattle.std.proofs.lemmas.List.Elements.{All-append, All-nil, All-cons}
use Rattle.ot_op.specs.declared.comp.Comp.{Comp}
use Rattle.ot_op.specs.declared.fault.FormFault.{FormFault}
use Rattle.journal_entries.specs.declared.act.Act.{Act}
use Rattle.journal_entries.specs.declared.act.Act.TheVariants.{Made, Ticked, Declined}
use Rattle.journal_entries.specs.declared.act.Entry.{Entry}
use Rattle.journal_entries.specs.declared.why.Why.{Why}
use Rattle.journal_entries.specs.declared.why.Why.TheVariants.{NoDoc, Holding}
use Rattle.journal_rules.specs.Documents.{Making, is_in, is_named, making_of, makings, number_in, number_of, waiting}
use Rattle.journal_rules.specs.Keeping.{cached_by}
use Rattle.journal_rules.specs.History.{history}
use Rattle.journal_rules.specs.Legal.{closed, is_project}
use Rattle.journal_rules.specs.Locks.{clock, next_token, used_by}
use Rattle.journal_rules.proofs.Pushing.{closed-push, clock-push, makings-push}
use Rattle.ending_rules.specs.Rounds.{joins_below}
use Rattle.turn_rules.specs.Draining.{Drains, Stop, TakesUp}
use Rattle.turn_rules.specs.Turns.{Alone, entry_by}
use Rattle.run_rules.specs.Keeping.{Preparation, Preparations, keeping, nothing_kept}
use Rattle.run_rules.specs.Lines.{DrainsNamed, DrainsSoMany, Holds, HoldsNamed, HoldsUnless, not_holdable, stop_acts}
use Rattle.session_lines.specs.Script.{session_of}
use Rattle.session_lines.specs.Standing.{AreBySessions, is_one_of, moved_by}
use Rattle.ending_rules.proofs.Apart.{all_first, all_later}
use Rattle.session_lines.specs.declared.line.Line.{Line}
use Rattle.session_lines.specs.declared.line.Line.TheVariants.{Doc, Tick}
use Rattle.book.specs.Calls.{raw_act, raw_act_of}
use Rattle.book.specs.Shown.{Shown, adds}
use Rattle.book.specs.declared.faults.Prepared.{Prepared}
use Rattle.book.specs.declared.faults.RawUpdate.{RawUpdate}
use Rattle.book.proofs.Going.{goes_rest}
use Rattle.book.specs.Going.{GoesOn, with_journal}
use Rattle.history_queue.specs.declared.item.Item.{Item}
use Rattle.project_histories.specs.Handing.{items_of, shown_item}
use Rattle.project_histories.proofs.Lists.{at_within}
use Rattle.script_driver.specs.declared.driver.Driver.{Driver}
use Rattle.script_driver.specs.Apart.{GoesApart, IsApart, IsBehind, is_apart}
use Rattle.script_driver.specs.Clients.{AreOwnClientsOf, GoesQuietly, is_of_none}
use Rattle.script_driver.specs.Syncing.{GoesApartThenQuietly}
use Rattle.script_driver.proofs.Clients.{one_stays, own_stay}
use Rattle.script_driver.proofs.Quiet.{quiet_clock, quiet_closed, quiet_makings}
use Rattle.share_client.specs.Clients.{Numbered}
use Rattle.journal_rules.specs.Client.{away, client}
use Rattle.journal_rules.proofs.Pushing.{client-none}
use Rattle.script_driver.specs.Fitting.{makings_by}
use Rattle.script_driver.specs.Handing.{is_own, items_handed_by}
use Rattle.script_driver.specs.Holding.{AreHeld, IsDriver, kept, kept_in}
use Rattle.script_driver.proofs.Apart.{same_clients, same_clock, same_closed, same_if, same_makings, wrote}
use Rattle.script_driver.proofs.Handing.{apart_hands_none, handed_by-none, handed_by-push, hands, items_of_hand}
use Rattle.script_driver.proofs.Holding.{behind_apart, behind_one}

-- what holds where a call was done holds so
pub both_ok : {T E : Type 0} (A B : Type 0) (r : Result T E) → OnOk r A → OnOk r B → OnOk r (A × B)
both_ok A B (Ok x) a b = (a, b)
both_ok A B (Err e) a b = tt

-- what a list had appended, where memory sufficed
pub appended_ok : {T E A : Type 0} (r : Result T E) (xs old more : List A) → xs ≡ (if is_ok r then old ++ more else old) → OnOk r (xs ≡ old ++ more)
appended_ok (Ok x) xs old more is = is
appended_ok (Err e) xs old more is = tt

-- ---- what a session keeps
pub keeps_none : (holds : List (Option Prepared)) (session : ℕ) (b : Bool) → session < length holds → ((o : Option Prepared) → slice_get holds session ≡ Some o → b ≡ is_some o) → b ≡ false → slice_get holds session ≡ Some None
keeps_none holds session b lt tells none = let x = at_within holds session lt in by x.0 x.1
  where
    by : (o : Option Prepared) → slice_get holds session ≡ Some o → slice_get holds session ≡ Some None
    by None at = at
    by (Some p) at = absurd (true≢false (sym (tells (Some p) at) ∙ none))

pub keeps_some : (holds : List (Option Prepared)) (session : ℕ) (b : Bool) → session < length holds → ((o : Option Prepared) → slice_get holds session ≡ Some o → b ≡ is_some o) → b ≡ true → (p : Preparation) × (kept_in holds session ≡ Some p)
keeps_some holds session b lt tells some = let x = at_within holds session lt in by x.0 x.1
  where
    by : (o : Option Prepared) → slice_get holds session ≡ Some o → (p : Preparation) × (kept_in holds session ≡ Some p)
    by None at = absurd (true≢false (sym some ∙ tells None at))
    by (Some p) at = (record { doc = p.look.doc; token = p.look.token }, ap (λ o. kept_of o) at)
      where
        kept_of : Option (Option Prepared) → Option Preparation
        kept_of None = None
        kept_of (Some o) = kept o

-- ---- `hold`
module _ (by : Act → Entry) (session : ℕ) (name : List ℕ) (p : Option Preparation) (kept_now : Preparations) (look last : List Entry) where
  pub holds_already : ((q : Preparation) × (p ≡ Some q)) → last ≡ look ++ by (Declined session Holding) ∷ [] → Holds by Alone session p name kept_now look last kept_now
  holds_already q is = subst (λ o. Holds by Alone session o name kept_now look last kept_now) (sym q.1) (is, refl)

  pub holds_unnamed : p ≡ None → number_of name look ≡ None → last ≡ look ++ by (Declined session NoDoc) ∷ [] → Holds by Alone session p name kept_now look last kept_now
  holds_unnamed none unnamed is =
      subst (λ o. Holds by Alone session o name kept_now look last kept_now) (sym none) (subst (λ o. HoldsNamed by Alone session o kept_now look last kept_now) (sym unnamed) (is, refl))

  pub holds_why : (doc : ℕ) (why : Why) → p ≡ None → number_of name look ≡ Some doc → not_holdable doc look ≡ Some why → last ≡ look ++ by (Declined session why) ∷ [] → Holds by Alone session p name kept_now look last kept_now
  holds_why doc why none named not is =
      subst (λ o. Holds by Alone session o name kept_now look last kept_now) (sym none) (subst (λ o. HoldsNamed by Alone session o kept_now look last kept_now) (sym named)
      (subst (λ o. HoldsUnless by Alone session doc o kept_now look last kept_now) (sym not) (is, refl)))

  pub holds_taken : (doc token : ℕ) (made : List Entry) (after : Preparations) → p ≡ None → number_of name look ≡ Some doc → not_holdable doc look ≡ None → TakesUp by doc token true look made → last ≡ look ++ made
      → after ≡ keeping session (Some (record { doc = doc; token = token })) kept_now → Holds by Alone session p name kept_now look last after
  holds_taken doc token made after none named can takes is keeps =
      subst (λ o. Holds by Alone session o name kept_now look last after) (sym none) (subst (λ o. HoldsNamed by Alone session o kept_now look last after) (sym named)
      (subst (λ o. HoldsUnless by Alone session doc o kept_now look last after) (sym can) (token, true, made, takes, (is, keeps))))

-- ---- `drain`
pub drains_so_many : (by : Act → Entry) (session doc n : ℕ) (first mid last : List Entry) (stop : Stop) → 0 < n → Drains by Alone doc n first mid stop → last ≡ mid ++ map by (stop_acts session stop) → DrainsSoMany by Alone session doc n first last
drains_so_many by session doc zero first mid last stop some drains is = absurd (omega (arith, some))
drains_so_many by session doc (suc n) first mid last stop some drains is = (mid, stop, drains, is)

pub drains_named : (by : Act → Entry) (session doc : ℕ) (name : List ℕ) (first mid last : List Entry) (stop : Stop) → number_of name first ≡ Some doc → 0 < length (waiting doc first) → Drains by Alone doc (length (waiting doc first)) first mid stop
    → last ≡ mid ++ map by (stop_acts session stop) → DrainsNamed by Alone session (number_of name first) first last
drains_named by session doc name first mid last stop named some drains is =
    subst (λ o. DrainsNamed by Alone session o first last) (sym named) (drains_so_many by session doc (length (waiting doc first)) first mid last stop some drains is)

-- ---- a book with one entry more
-- one's own entry is one's own
own_here : (drivers seat : ℕ) → (drivers == 0 || seat == seat) ≡ true
own_here drivers seat = ap (λ b. drivers == 0 || b) (eq-eqb seat seat refl) ∙ or-true (drivers == 0)

module _ {K : Type 0} (driver : Driver K) (new : Shown) (line : Option ℕ) where
  pub added : (act : Act) (handed : Vec Item) → is_of_none act ≡ true → ((d : ℕ) → cached_by d act true ≡ true) → ((t : ℕ) → is_in t (used_by act) ≡ false) → handed.items ≡ driver.handed.items ++ items_of driver.book.journal act
      → IsDriver driver → new ≡ adds driver.book driver.seat line (act ∷ []) → IsDriver (record driver { book = new; handed = handed })
  added act handed of_none caches unused hands was is = record {
    held = behind_one driver.holds.items driver.book.journal new.journal (entry_by driver.seat line act) (ap (λ (b : Shown). b.journal) is) unused was.held;
    clients = subst (λ (b : Shown). AreOwnClientsOf b.drivers driver.seat driver.clients.items b.journal) (sym is) (own_stay driver.book.drivers driver.seat driver.clients.items driver.book.journal (driver.book.journal ++ entry_by driver.seat line act ∷ []) (one_stays driver.book.journal (entry_by driver.seat line act) of_none) was.clients);
    many = was.many;
    handed = hands ∙ ap (λ xs. xs ++ items_of driver.book.journal act) was.handed
        ∙ sym (ap (λ (b : Shown). items_handed_by (is_own b.drivers driver.seat) b.journal) is ∙ handed_by-push (is_own driver.book.drivers driver.seat) driver.book.journal (entry_by driver.seat line act)
        ∙ ap (λ (b : Bool). items_handed_by (is_own driver.book.drivers driver.seat) driver.book.journal ++ (if b then items_of driver.book.journal act else [])) (own_here driver.book.drivers driver.seat));
  }

  -- where it hands nothing out
  added_plainly : (act : Act) → is_of_none act ≡ true → ((d : ℕ) → cached_by d act true ≡ true) → ((t : ℕ) → is_in t (used_by act) ≡ false) → items_of driver.book.journal act ≡ [] → IsDriver driver → new ≡ adds driver.book driver.seat line (act ∷ []) → IsDriver (record driver { book = new })
  added_plainly act of_none caches unused none = added act driver.handed of_none caches unused (sym (ap (λ xs. driver.handed.items ++ xs) none ∙ append-nil driver.handed.items))

  pub declined : (session : ℕ) (why : Why) → IsDriver driver → new ≡ adds driver.book driver.seat line (Declined session why ∷ []) → IsDriver (record driver { book = new })
  declined session why = added_plainly (Declined session why) refl (λ d. refl) (λ t. refl) refl

  pub drained : new.drivers ≡ driver.book.drivers → GoesApart (next_token driver.book.journal) driver.book.journal new.journal → IsDriver driver → IsDriver (record driver { book = new })
  drained same g was = record { held = behind_apart driver.holds.items driver.book.journal new.journal g was.held; clients = subst (λ d. AreOwnClientsOf d driver.seat driver.clients.items new.journal) (sym same) (own_stay driver.book.drivers driver.seat driver.clients.items driver.book.journal new.journal (same_clients (next_token driver.book.journal) driver.book.journal new.journal g) was.clients); many = was.many; handed = was.handed ∙ sym (ap (λ d. items_handed_by (is_own d driver.seat) new.journal) same ∙ apart_hands_none (is_own driver.book.drivers driver.seat) (next_token driver.book.journal) driver.book.journal new.journal g) }

raw_caches : (op : Result (List Comp) FormFault) (now : ℕ) (u : RawUpdate) (d : ℕ) → cached_by d (raw_act_of op now u) true ≡ true
raw_caches (Ok op) now u d = refl
raw_caches (Err fault) now u d = refl

raw_of_none : (op : Result (List Comp) FormFault) (now : ℕ) (u : RawUpdate) → is_of_none (raw_act_of op now u) ≡ true
raw_of_none (Ok op) now u = refl
raw_of_none (Err fault) now u = refl

raw_uses : (op : Result (List Comp) FormFault) (now : ℕ) (u : RawUpdate) (t : ℕ) → is_in t (used_by (raw_act_of op now u)) ≡ false
raw_uses (Ok op) now u t = refl
raw_uses (Err fault) now u t = refl

raw_hands_none : (op : Result (List Comp) FormFault) (now : ℕ) (u : RawUpdate) (j : List Entry) → items_of j (raw_act_of op now u) ≡ []
raw_hands_none (Ok op) now u j = refl
raw_hands_none (Err fault) now u j = refl

raw_apart : (op : Result (List Comp) FormFault) (now : ℕ) (u : RawUpdate) (from : ℕ) → is_apart from (raw_act_of op now u) ≡ true
raw_apart (Ok op) now u from = refl
raw_apart (Err fault) now u from = refl

pub sent : {K : Type 0} (driver : Driver K) (new : Shown) (line : Option ℕ) (now : ℕ) (u : RawUpdate) → IsDriver driver → new ≡ adds driver.book driver.seat line (raw_act now u ∷ []) → IsDriver (record driver { book = new })
sent driver new line now u = added_plainly driver new line (raw_act now u) (raw_of_none u.op now u) (raw_caches u.op now u) (raw_uses u.op now u) (raw_hands_none u.op now u driver.book.journal)

pub made : {K : Type 0} (driver : Driver K) (new : Shown) (line : Option ℕ) (doc : ℕ) (name project first : List ℕ) (base : ℕ) → IsDriver driver → new ≡ adds driver.book driver.seat line (Made doc name project first base ∷ []) → IsDriver (record driver { book = new })
made driver new line doc name project first base = added_plainly driver new line (Made doc name project first base) refl (λ d. same_if (doc == d)) (λ t. refl) refl

pub ticked : {K : Type 0} (driver : Driver K) (new : Shown) (line : Option ℕ) (ms : ℕ) → IsDriver driver → new ≡ adds driver.book driver.seat line (Ticked ms ∷ []) → IsDriver (record driver { book = new })
ticked driver new line ms = added_plainly driver new line (Ticked ms) refl (λ d. refl) (λ t. refl) refl

-- what a `hand` hands out stands behind what was handed out before
pub handed_more : {K : Type 0} (driver : Driver K) (new : Shown) (line : Option ℕ) (session n : ℕ) (project : List ℕ) (handed : Vec Item) → is_project project driver.book.journal ≡ true
    → handed.items ≡ driver.handed.items ++ map shown_item (take n (history project driver.book.journal)) → IsDriver driver → new ≡ adds driver.book driver.seat line (hands session n project driver.book.journal ∷ []) → IsDriver (record driver { book = new; handed = handed })
handed_more driver new line session n project handed known items =
    added driver new line (hands session n project driver.book.journal) handed refl (λ d. refl) (λ t. refl) (items ∙ ap (λ xs. driver.handed.items ++ xs) (sym (items_of_hand session n project driver.book.journal)))

-- ---- behind a line
pub apart_behind : (line : Line) (from : ℕ) (left last : List Entry) → ((ms : List Making) → makings_by ms line ≡ ms) → moved_by line ≡ 0 → GoesApart from left last → IsBehind line left last
apart_behind line from left last none still g =
    let c = same_clock from left last g in
    record {
      makings_are = same_makings from left last g ∙ sym (none (makings left));
      clock_is = let same : clock last ≡ clock left + moved_by line = omega (arith, c, still) in same;
      closed_is = same_closed from left last g;
    }

module _ (seat : ℕ) (line : Option ℕ) (left last : List Entry) where
  pub behind_doc : (doc : ℕ) (name project first : List ℕ) (base : ℕ) → last ≡ left ++ entry_by seat line (Made doc name project first base) ∷ [] → IsBehind (Doc name project first base) left last
  behind_doc doc name project first base is =
      let e = entry_by seat line (Made doc name project first base) in
      let c = ap clock is ∙ clock-push left e in
      record {
        makings_are = ap makings is ∙ makings-push left e;
        clock_is = let same : clock last ≡ clock left + 0 = omega (arith, c) in same;
        closed_is = ap closed is ∙ closed-push left e ∙ append-nil (closed left);
      }

  pub behind_tick : (session ms : ℕ) → last ≡ left ++ entry_by seat line (Ticked ms) ∷ [] → IsBehind (Tick session ms) left last
  behind_tick session ms is =
      let e = entry_by seat line (Ticked ms) in
      record {
        makings_are = ap makings is ∙ makings-push left e ∙ append-nil (makings left);
        clock_is = ap clock is ∙ clock-push left e;
        closed_is = ap closed is ∙ closed-push left e ∙ append-nil (closed left);
      }

  pub apart_raw : (from now : ℕ) (u : RawUpdate) → last ≡ left ++ entry_by seat line (raw_act now u) ∷ [] → GoesApart from left last
  apart_raw from now u is = wrote seat line from (raw_act now u) left last (raw_apart u.op now u from) is

-- ---- a name that is new
module _ {A : Type 0} (p : A → Bool) where
  nowhere : (xs : List A) → list_any p xs ≡ false → length xs ≤ position_or_len p xs
  nowhere [] e = omega arith
  nowhere (x ∷ xs) e = go (p x) e (nowhere xs)
    where
      go : (b : Bool) → (b || list_any p xs) ≡ false → (list_any p xs ≡ false → length xs ≤ position_or_len p xs) → length (x ∷ xs) ≤ cond (not b) (1 + position_or_len p xs) 0
      go true e h = absurd (true≢false e)
      go false e h = let l = h e in omega (arith, l)

  pub none_found : (xs : List A) → list_any p xs ≡ false → position p xs ≡ None
  none_found xs e = ap (λ b. if b then Some (position_or_len p xs) else None) (le-ltb (position_or_len p xs) (length xs) (nowhere xs e))

-- ---- lines and their sessions
pub by_parts : (n m : ℕ) (l : Line) (ls : List Line) → n ≡ m → AreBySessions n (l ∷ ls) → is_one_of m (session_of l) ≡ true
by_parts n m l ls same by = ap (λ k. is_one_of k (session_of l)) (sym same) ∙ (and_parts (is_one_of n (session_of l)) (list_all (λ x. is_one_of n (session_of x)) ls) by).0

pub by_rest : (n : ℕ) (l : Line) (ls : List Line) → AreBySessions n (l ∷ ls) → AreBySessions n ls
by_rest n l ls by = (and_parts (is_one_of n (session_of l)) (list_all (λ x. is_one_of n (session_of x)) ls) by).1

-- ---- at first
at_none : (holds : List (Option Prepared)) → All (λ k. k ≡ None) holds → (s : ℕ) (o : Option Prepared) → slice_get holds s ≡ Some o → o ≡ None
at_none [] all s o at = absurd (cc)
at_none (x ∷ xs) all zero o at = let same : x ≡ o = cc in sym same ∙ all_first (λ (k : Option Prepared). k ≡ None) x xs all
at_none (x ∷ xs) all (suc s) o at = at_none xs (all_later (λ (k : Option Prepared). k ≡ None) x xs all) s o at

pub kept_none : (holds : List (Option Prepared)) → All (λ k. k ≡ None) holds → kept_in holds ≡ nothing_kept
kept_none holds all = λ i s. each s (slice_get holds s) refl i
  where
    each : (s : ℕ) (o : Option (Option Prepared)) → slice_get holds s ≡ o → kept_in holds s ≡ None
    each s None at = ap (option_and_then kept) at
    each s (Some o) at = ap (option_and_then kept) (at ∙ ap (λ x. Some x) (at_none holds all s o at))

pub empty_driver : {K : Type 0} (driver : Driver K) → (driver.book.journal ≡ []) × (driver.handed.items ≡ []) → All (λ k. k ≡ None) driver.holds.items → ((c : ℕ) (x : Numbered) → slice_get driver.clients.items c ≡ Some x → x ≡ record { client = c; now = away }) → length driver.clients.items ≡ length driver.holds.items → IsDriver driver
empty_driver driver book all aways many = record {
  held = record {
    stands = λ session p at. let e = at_none driver.holds.items all session (Some p) at in absurd (cc);
    apart = λ one other p q differ at other_at. let e = at_none driver.holds.items all one (Some p) at in absurd (cc);
  };
  clients = record { each = λ c x at. (let is = aways c x at in (ap (λ (y : Numbered). y.client) is, λ mine. ap (λ (y : Numbered). y.now) is ∙ sym (ap (client x.client) book.0 ∙ client-none x.client))) };
  many = many;
  handed = book.1 ∙ sym (ap (items_handed_by (is_own driver.book.drivers driver.seat)) book.0 ∙ handed_by-none (is_own driver.book.drivers driver.seat));
}

-- ---- a line of a session's client
pub quiet_behind : (line : Line) (session : ℕ) (left last : List Entry) → ((ms : List Making) → makings_by ms line ≡ ms) → moved_by line ≡ 0 → GoesQuietly session left last → IsBehind line left last
quiet_behind line session left last none still g =
    let c = quiet_clock session left last g in
    record {
      makings_are = quiet_makings session left last g ∙ sym (none (makings left));
      clock_is = let same : clock last ≡ clock left + moved_by line = omega (arith, c, still) in same;
      closed_is = quiet_closed session left last g;
    }

pub synced_behind : (line : Line) (from session : ℕ) (left last : List Entry) → ((ms : List Making) → makings_by ms line ≡ ms) → moved_by line ≡ 0 → GoesApartThenQuietly from session left last → IsBehind line left last
synced_behind line from session left last none still g =
    let a = same_clock from left g.mid g.apart in
    let q = quiet_clock session g.mid last g.quiet in
    record {
      makings_are = quiet_makings session g.mid last g.quiet ∙ same_makings from left g.mid g.apart ∙ sym (none (makings left));
      clock_is = let same : clock last ≡ clock left + moved_by line = omega (arith, a, q, still) in same;
      closed_is = quiet_closed session g.mid last g.quiet ∙ same_closed from left g.mid g.apart;
    }

-- ---- how the book goes on
pub goes_synced : {tells : Bool} (left last : Shown) (from session : ℕ) → last ≡ with_journal left last.journal → GoesApartThenQuietly from session left.journal last.journal → GoesOn tells left last
goes_synced left last from session rest g =
    goes_rest left last (g.apart.more ++ g.quiet.more) rest (g.quiet.last_is ∙ ap (λ (j : List Entry). j ++ g.quiet.more) g.apart.last_is ∙ append_assoc left.journal g.apart.more g.quiet.more)
