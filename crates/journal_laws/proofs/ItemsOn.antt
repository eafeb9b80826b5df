-- The items of a document after one entry more: no copy is applied twice.
use Rattle.std.proofs.Common.{◌≡◌, ◌≢◌, ℕ, ◌+◌, ◌<◌, ◌≤◌, List, [], ◌∷◌, ◌++◌, length, Bool, true, false, true≢false, refl, sym, ap, ap₂, ◌∙◌, subst, inl, inr, ⊎_elim, arith, eq-eqb, append-nil}
use Rattle.std.specs.Prelude.{Some, None, if◌then◌else◌}
use Rattle.std.proofs.lemmas.Bool.{cases_lt}
use native.Mathlib.Decide.{ℕ_discrete}
use Rattle.ot_op.specs.declared.comp.Comp.{Comp}
use Rattle.journal_entries.specs.declared.update.Update.{Update}
use Rattle.journal_entries.specs.declared.update.Outcome.{Outcome}
use Rattle.journal_entries.specs.declared.update.Outcome.TheVariants.{Applied, Dup, Refused}
use Rattle.journal_entries.specs.declared.update.Cause.TheVariants.{Memory as NoMemory, StoreFault as StoreFailed}
use Rattle.journal_entries.specs.declared.act.Act.TheVariants.{Committed}
use Rattle.journal_entries.specs.declared.act.Entry.{Entry}
use Rattle.journal_rules.specs.Documents.{makings, first_in, base_in, Item, item_of, items_by, applied_list, base, first, version, replayed, update_of, update_at, sends, ticket_of, waiting, is_in}
use Rattle.journal_rules.specs.Locks.{clock}
use Rattle.journal_rules.specs.Deciding.{decided}
use Rattle.journal_rules.specs.Client.{Client, client, has_flight}
use Rattle.journal_rules.specs.Legal.{IsAllowed, IsLegal}
use Rattle.journal_rules.specs.Documents.{IsMade}
use Rattle.journal_rules.proofs.Pushing.{applied_list-push}
use Rattle.journal_rules.proofs.Waits.{one_if, committed_below, waiting-more, waiting-committed, waiting-committed_other, waits_sent, update_stays, update_within}
use Rattle.journal_rules.proofs.Fencing.{Quiet, commit_or, making_stays}
use Rattle.journal_rules.proofs.Lists.{AllIn, Each, all_in-append, each_map_cut, each-push, each_all, each_left, each_right, all_in_at, all_any_way, some_same}
use Rattle.journal_rules.proofs.Replaying.{ops}
use Rattle.journal_laws.proofs.Alive.{IsCopy, IsItem, IsFlying, IsGrounded, IsAlive}
use Rattle.journal_laws.proofs.Updates.{update_new, Sends, Fresh, Again, Decided, decided_applies}
use Rattle.journal_laws.proofs.World.{World, sent_by_client, well, waiting_rises, items_none, commit_made}

module _ (h : List Entry) (e : Entry) (legal : IsLegal h) (may : IsAllowed h e.seat e.act) (w : World h) where
  base_stays : (d : ℕ) → IsMade d h → base d (h ++ e ∷ []) ≡ base d h
  base_stays d made = ap base_in (making_stays d h e made)

  first_stays : (d : ℕ) → IsMade d h → first d (h ++ e ∷ []) ≡ first d h
  first_stays d made = ap first_in (making_stays d h e made)

  item_stays : (d : ℕ) → IsMade d h → (b : List Item) (x : Item) → IsItem d h b x → AllIn (λ t. x.ticket < t) (waiting d (h ++ e ∷ []))
      → ((u : Update) (c : ℕ) → update_of e.act ≡ Some u → u.client ≡ Some c → IsCopy c u.number x → u.v ≤ base d h + length b) → IsItem d (h ++ e ∷ []) b x
  item_stays d made b x it early low = record {
    v_is = it.v_is ∙ ap (λ n. n + length b) (sym (base_stays d made));
    known = update_stays h (e ∷ []) x.ticket x.update it.known;
    doc_is = it.doc_is;
    past = it.past;
    since = it.since;
    cut = it.cut;
    from = it.from ∙ ap (λ n. n + length it.past) (sym (base_stays d made));
    passing = it.passing;
    here = it.here;
    to = it.to;
    here_is = ap (λ f. replayed f (ops b)) (first_stays d made) ∙ it.here_is;
    to_is = it.to_is;
    short = it.short;
    low = λ t u c is own copy. let s = base_stays d made in ⊎_elim {C = u.v ≤ base d (h ++ e ∷ []) + length b}
        (λ old. let l = it.low t u c old own copy in omega (arith, l, s))
        (λ new. let l = low u c new.1 own copy in omega (arith, l, s))
        (update_new h e t u is);
    once = it.once;
    early = early;
  }

  -- what is sent is not older than where its number was applied
  low_new : (d : ℕ) (b : List Item) (x : Item) (rest : List Item) → applied_list d h ≡ b ++ x ∷ rest → IsItem d h b x
      → (u : Update) (c : ℕ) → update_of e.act ≡ Some u → u.client ≡ Some c → IsCopy c u.number x → u.v ≤ base d h + length b
  low_new d b x rest cut it u c is own copy =
      let s = sent_by_client h e legal may w c u is own in
      let l = well h e legal may w c s.0 in
      by (client c h) l.seen l.ahead s.1 l.alive (w.counted c x.ticket x.update it.known copy.0).0
    where
      by : (s : Client) (seen ahead : List Item) → Sends c s (clock h) u → IsAlive c h s seen ahead → x.update.number ≤ s.number → u.v ≤ base d h + length b
      by s seen ahead (Fresh f same) al le = let n : u.number ≡ s.number + 1 = ap (λ (y : Update). y.number) same in let m = copy.1 in absurd (omega (arith, n, m, le))
      by s seen ahead (Again g f same) al le = ⊎_elim {C = u.v ≤ base d h + length b} flying (λ (ground : IsGrounded c h s seen x.update). absurd (ground.other flies number)) (al.filed x.ticket x.update it.known copy.0)
        where
          flies : has_flight s.flight ≡ true
          flies = ap has_flight f

          number : x.update.number ≡ s.number
          number = copy.1 ∙ ap (λ (y : Update). y.number) same

          flying : IsFlying h s seen x.update → u.v ≤ base d h + length b
          flying fly =
              let doc : s.doc ≡ d = sym fly.doc_is ∙ it.doc_is in
              let list : seen ++ ahead ≡ b ++ x ∷ rest = sym al.split ∙ ap (λ n. applied_list n h) doc ∙ cut in
              let v : u.v ≡ s.version = ap (λ (y : Update). y.v) same in
              let at = al.at in
              let same_base : base s.doc h ≡ base d h = ap (λ n. base n h) doc in
              ⊎_elim {C = u.v ≤ base d h + length b}
              (λ (lt : length b < length seen). absurd (all_in_at (λ y. IsCopy c s.number y → ⊥) seen ahead b x rest list lt (al.late flies) (copy.0, number)))
              (λ (le : length seen ≤ length b). omega (arith, v, at, same_base, le))
              (cases_lt (length b) (length seen))

  -- the applied list stays, and what waits is some of what waited and some that is sent now
  old_items : (d : ℕ) → IsMade d h → ((b : List Item) (x : Item) → IsItem d h b x → AllIn (λ t. x.ticket < t) (waiting d (h ++ e ∷ []))) → Each (IsItem d (h ++ e ∷ [])) [] (applied_list d h)
  old_items d made early = each_map_cut (IsItem d h) (IsItem d (h ++ e ∷ [])) [] (applied_list d h) (λ b x rest cut it. item_stays d made b x it (early b x it) (λ u c is own copy. low_new d b x rest cut it u c is own copy)) (w.items d made)

  same_items : (d : ℕ) → IsMade d h → items_by d h e.act ≡ [] → ((b : List Item) (x : Item) → IsItem d h b x → AllIn (λ t. x.ticket < t) (waiting d (h ++ e ∷ []))) → Each (IsItem d (h ++ e ∷ [])) [] (applied_list d (h ++ e ∷ []))
  same_items d made nothing early =
      let same : applied_list d (h ++ e ∷ []) ≡ applied_list d h = applied_list-push d h e ∙ ap (λ l. applied_list d h ++ l) nothing ∙ append-nil (applied_list d h) in
      subst (λ (l : List Item). Each (IsItem d (h ++ e ∷ [])) [] l) (sym same) (old_items d made early)

  quiet : (d : ℕ) → IsMade d h → Quiet e.act → Each (IsItem d (h ++ e ∷ [])) [] (applied_list d (h ++ e ∷ []))
  quiet d made q = same_items d made (q.items_none d h) (λ b x it.
      subst (AllIn (λ t. x.ticket < t)) (sym (waiting-more d h e (committed_below h legal) q.ticket_none))
      (all_in-append (λ t. x.ticket < t) (waiting d h) (one_if (sends d e.act) (length h)) it.early (one (sends d e.act) x (update_within h x.ticket x.update it.known))))
    where
      one : (b : Bool) (x : Item) → x.ticket < length h → AllIn (λ t. x.ticket < t) (one_if b (length h))
      one true x lt = (lt, tt)
      one false x lt = tt

  module _ (d token ticket : ℕ) (outcome : Outcome) (is : e.act ≡ Committed d token ticket outcome) where
    row : IsAllowed h e.seat (Committed d token ticket outcome)
    row = subst (λ a. IsAllowed h e.seat a) is may

    unsent : (n : ℕ) → sends n e.act ≡ false
    unsent n = ap (sends n) is

    no_update : (u : Update) → update_of e.act ≡ Some u → ⊥
    no_update u sent = let f : None ≡ Some u = sym (ap update_of is) ∙ sent in cc

    left_waiting : waiting d (h ++ e ∷ []) ≡ row.rest
    left_waiting = waiting-committed d h e ticket row.rest (unsent d) (ap ticket_of is) row.first

    elsewhere : (n : ℕ) → IsMade n h → d ≢ n → Each (IsItem n (h ++ e ∷ [])) [] (applied_list n (h ++ e ∷ []))
    elsewhere n made apart = same_items n made (items_none h e legal may w n (inr (d, token, ticket, outcome, is, apart))) (λ b x it.
        subst (AllIn (λ t. x.ticket < t)) (sym (waiting-committed_other n d h e ticket row.rest (λ s. apart (sym s)) (unsent n) (ap ticket_of is) row.first)) it.early)

    made : IsMade d h
    made = commit_made h e legal may w d token ticket outcome is

    olds : Each (IsItem d (h ++ e ∷ [])) [] (applied_list d h)
    olds = old_items d made (λ b x it. subst (AllIn (λ t. x.ticket < t)) (sym left_waiting) (subst (AllIn (λ t. x.ticket < t)) row.first it.early).1)

    -- THE SECOND COPY IS NEVER APPLIED
    first_copy : (u : Update) (v : ℕ) (op : List Comp) → update_at h ticket ≡ Some u → Decided d h u v op → (c : ℕ) → u.client ≡ Some c → AllIn (λ y. IsCopy c u.number y → ⊥) (applied_list d h)
    first_copy u v op known dd c own =
        let R : Item → Type 0 = λ y. IsCopy c u.number y → ⊥ in
        let all : Each (IsItem d h) [] (dd.past ++ dd.since) = subst (λ (l : List Item). Each (IsItem d h) [] l) dd.cut (w.items d made) in
        subst (AllIn R) (sym dd.cut) (all_in-append R dd.past dd.since
        (each_all (IsItem d h) (λ y. Unit {0}) R [] dd.past
        (λ b y low high it any copy. let l = it.low ticket u c known own copy in let f = dd.from in omega (arith, l, f, high))
        (each_left (IsItem d h) [] dd.past dd.since all) (all_any_way dd.past))
        (each_all (IsItem d h) (λ (y : Item). is_in y.update.source u.dup ≡ false) R dd.past dd.since
        (λ b y low high it free copy.
        let before : y.ticket < ticket = (subst (AllIn (λ t. y.ticket < t)) row.first it.early).0 in
        let pair = w.paired c y.ticket ticket y.update u it.known known copy.0 own copy.1 before in
        true≢false (sym pair.0 ∙ free))
        (each_right (IsItem d h) [] dd.past dd.since all) dd.passing.free))

    one_doc : (u u' : Update) (t c : ℕ) → update_at h ticket ≡ Some u → update_at h t ≡ Some u' → u.client ≡ Some c → u'.client ≡ Some c → u.number ≡ u'.number → u'.doc ≡ u.doc
    one_doc u u' t c known known' own own' number = ⊎_elim {C = u'.doc ≡ u.doc}
        (λ (lt : t < ticket). (w.paired c t ticket u' u known' known own' own (sym number) lt).1)
        (λ (le : ticket ≤ t). ⊎_elim {C = u'.doc ≡ u.doc}
        (λ (lt : ticket < t). sym (w.paired c ticket t u u' known known' own own' number lt).1)
        (λ (ge : t ≤ ticket). let same : t ≡ ticket = omega (arith, le, ge) in ap (λ (x : Update). x.doc) (some_same u' u (sym known' ∙ ap (update_at h) same ∙ known)))
        (cases_lt ticket t))
        (cases_lt t ticket)

    new_item : (u : Update) (v : ℕ) (op : List Comp) → update_at h ticket ≡ Some u → u.doc ≡ d → Decided d h u v op → IsItem d (h ++ e ∷ []) (applied_list d h) (record { op = op; v = v; ticket = ticket; update = u })
    new_item u v op known doc dd = record {
      v_is = dd.v_is ∙ ap (λ n. n + length (applied_list d h)) (sym (base_stays d made));
      known = update_stays h (e ∷ []) ticket u known;
      doc_is = doc;
      past = dd.past;
      since = dd.since;
      cut = dd.cut;
      from = dd.from ∙ ap (λ n. n + length dd.past) (sym (base_stays d made));
      passing = dd.passing;
      here = dd.here;
      to = dd.to;
      here_is = ap (λ f. replayed f (ops (applied_list d h))) (first_stays d made) ∙ dd.here_is;
      to_is = dd.to_is;
      short = dd.short;
      low = λ t u' c is' own' copy. let b = base_stays d made in ⊎_elim {C = u'.v ≤ base d (h ++ e ∷ []) + length (applied_list d h)}
          (λ old.
          let l = (w.counted c t u' old own').2 in
          let same : version u'.doc h ≡ version d h = ap (λ n. version n h) (one_doc u u' t c known old copy.0 own' copy.1 ∙ doc) in
          omega (arith, l, same, b))
          (λ new. absurd (no_update u' new.1))
          (update_new h e t u' is');
      once = λ c own. first_copy u v op known dd c own;
      early = subst (AllIn (λ t. ticket < t)) (sym left_waiting) (waiting_rises d ticket h row.rest row.first);
    }

    sent_doc : (u : Update) → update_at h ticket ≡ Some u → u.doc ≡ d
    sent_doc u known = let s = waits_sent d ticket h row.rest row.first in ap (λ (x : Update). x.doc) (some_same u s.0 (sym known ∙ s.1)) ∙ s.2

    items_are : (u : Update) → update_at h ticket ≡ Some u → applied_list d (h ++ e ∷ []) ≡ applied_list d h ++ item_of ticket (Some u) outcome
    items_are u known = applied_list-push d h e ∙ ap (λ l. applied_list d h ++ l) (ap (items_by d h) is ∙ ap (λ b. if b then item_of ticket (update_at h ticket) outcome else []) (eq-eqb d d refl) ∙ ap (λ o. item_of ticket o outcome) known)

    here_too : Each (IsItem d (h ++ e ∷ [])) [] (applied_list d (h ++ e ∷ []))
    here_too =
        let s = waits_sent d ticket h row.rest row.first in
        subst (λ (l : List Item). Each (IsItem d (h ++ e ∷ [])) [] l) (sym (items_are s.0 s.1)) (by s.0 s.1 outcome refl)
      where
        more : (u : Update) → update_at h ticket ≡ Some u → (v : ℕ) (op : List Comp) → outcome ≡ Applied v op → decided h d u ≡ Applied v op
        more u known v op o = ⊎_elim {C = decided h d u ≡ Applied v op}
            (λ right. ap (decided h d) (some_same u right.update (sym known ∙ right.named)) ∙ sym right.outcome_is ∙ o)
            (λ r. ⊎_elim {C = decided h d u ≡ Applied v op}
            (λ memory. let f : Refused NoMemory ≡ Applied v op = sym memory ∙ o in absurd (cc))
            (λ fault. let f : Refused StoreFailed ≡ Applied v op = sym fault.outcome_is ∙ o in absurd (cc))
            r)
            row.ends

        by : (u : Update) → update_at h ticket ≡ Some u → (o : Outcome) → outcome ≡ o → Each (IsItem d (h ++ e ∷ [])) [] (applied_list d h ++ item_of ticket (Some u) o)
        by u known (Applied v op) o = each-push (IsItem d (h ++ e ∷ [])) [] (applied_list d h) (record { op = op; v = v; ticket = ticket; update = u }) olds
            (new_item u v op known (sent_doc u known) (decided_applies d h u v op (more u known v op o)))
        by u known (Dup v) o = subst (λ (l : List Item). Each (IsItem d (h ++ e ∷ [])) [] l) (sym (append-nil (applied_list d h))) olds
        by u known (Refused cause) o = subst (λ (l : List Item). Each (IsItem d (h ++ e ∷ [])) [] l) (sym (append-nil (applied_list d h))) olds

  made_items : (d : ℕ) → IsMade d h → Each (IsItem d (h ++ e ∷ [])) [] (applied_list d (h ++ e ∷ []))
  made_items d made = ⊎_elim {C = Each (IsItem d (h ++ e ∷ [])) [] (applied_list d (h ++ e ∷ []))}
      (λ c. by c.0 c.1 c.2 c.3 c.4 (ℕ_discrete c.0 d))
      (λ q. quiet d made q)
      (commit_or e.act)
    where
      by : (doc token ticket : ℕ) (outcome : Outcome) → e.act ≡ Committed doc token ticket outcome → Dec (doc ≡ d) → Each (IsItem d (h ++ e ∷ [])) [] (applied_list d (h ++ e ∷ []))
      by doc token ticket outcome is (yes same) = subst (λ n. Each (IsItem n (h ++ e ∷ [])) [] (applied_list n (h ++ e ∷ []))) same (here_too doc token ticket outcome is)
      by doc token ticket outcome is (no apart) = elsewhere doc token ticket outcome is d made apart

  pub items_on : (d : ℕ) → IsMade d (h ++ e ∷ []) → Each (IsItem d (h ++ e ∷ [])) [] (applied_list d (h ++ e ∷ []))
  items_on d made = ⊎_elim {C = Each (IsItem d (h ++ e ∷ [])) [] (applied_list d (h ++ e ∷ []))}
      (λ (lt : d < length (makings h)). made_items d lt)
      (λ (le : length (makings h) ≤ d). subst (λ (l : List Item). Each (IsItem d (h ++ e ∷ [])) [] l) (sym (nothing le)) tt)
      (cases_lt d (length (makings h)))
    where
      nothing : length (makings h) ≤ d → applied_list d (h ++ e ∷ []) ≡ []
      nothing le =
          let none : items_by d h e.act ≡ [] = ⊎_elim {C = items_by d h e.act ≡ []}
          (λ c. items_none h e legal may w d (inr (c.0, c.1, c.2, c.3, c.4, λ same. let m = commit_made h e legal may w c.0 c.1 c.2 c.3 c.4 in omega (arith, m, le, same))))
          (λ q. items_none h e legal may w d (inl q))
          (commit_or e.act) in
          applied_list-push d h e ∙ ap₂ (λ x y. x ++ y) (w.unmade d le) none
