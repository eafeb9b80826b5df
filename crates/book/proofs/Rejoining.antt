-- A client that left and comes back: what its document's window has from its version on is what the journal delivers to it.
use Rattle.std.proofs.Common.{◌≡◌, ℕ, ◌+◌, ◌-◌, ◌≤◌, List, [], ◌∷◌, length, map, take, drop, Bool, true, false, refl, sym, ap, ◌∙◌, subst, arith, All}
use Rattle.std.specs.Prelude.{Option, Some, if◌then◌else◌}
use Rattle.std.proofs.lemmas.Bool.{le-ltb}
use Rattle.std.proofs.lemmas.List.{length-drop}
use Rattle.std.proofs.lemmas.List.Elements.{All-nil, All-cons}
use Rattle.journal_entries.specs.declared.message.Msg.{Msg}
use Rattle.journal_entries.specs.declared.message.Msg.TheVariants.{Op}
use Rattle.journal_entries.specs.declared.act.Entry.{Entry}
use Rattle.journal_rules.specs.declared.state.ClientState.{ClientState}
use Rattle.journal_rules.specs.declared.state.ClientState.TheVariants.{Left}
use Rattle.journal_rules.specs.Client.{Client, caught_up, delivered, given, is_alive, items_between}
use Rattle.journal_rules.specs.Documents.{IsMade, Item, applied_list, base, version}
use Rattle.journal_rules.specs.Deciding.{Passed, passed_of}
use Rattle.journal_rules.specs.Legal.{IsLegal, IsReturning, source_at}
use Rattle.journal_rules.proofs.Lists.{AllIn, some_same, take_all}
use Rattle.journal_rules.proofs.Replaying.{ops}
use Rattle.journal_laws.specs.ClientLaw.{Shows, items_from}
use Rattle.journal_laws.proofs.Laws.{shows}
use Rattle.journal_sizes.specs.Sizes.{AreSized, IsAtEase, IsSized}
use Rattle.journal_sizes.proofs.Clients.{at_ease}
use Rattle.journal_sizes.proofs.Delivering.{goes_on}
use Rattle.journal_sizes.proofs.Mail.{ahead_sized}
use Rattle.dup_check.specs.declared.past.Past.{Past}
use Rattle.dup_check.specs.Window.{Recent}
use Rattle.dup_check.specs.Snapshot.{numbered}
use Rattle.share_client.specs.Clients.{Numbered, unless_away}
use Rattle.share_client.specs.declared.returning.Missed.{Missed}
use Rattle.share_client.specs.Returning.{with_all, with_missed}
use Rattle.book.specs.Calls.{MayReturn}
use Rattle.book.specs.Passing.{missed_by, missed_of, passed_by}
use Rattle.book.specs.Roomed.{IsClientOf}
use Rattle.book.specs.Standing.{IsWindowOf}
use Rattle.book.proofs.Looking.{passed_is}

-- ---- what a client that left tells of itself
pub left_told : {X : Type 0} (st : ClientState) (x y : X) (o : Option X) → st ≡ Left → o ≡ unless_away st x → o ≡ Some y → y ≡ x
left_told st x y o left told is = some_same y x (sym is ∙ told ∙ ap (λ t. unless_away t x) left)

-- ---- what is delivered to a client that is stale
undelivered : (s : Client) (m : Msg) → is_alive s.state ≡ false → delivered s m ≡ s
undelivered s m gone = ap (λ b. if b then given s m else s) gone

stays_with_items : (xs : List Item) (s : Client) → is_alive s.state ≡ false → caught_up s xs ≡ s
stays_with_items [] s gone = refl
stays_with_items (x ∷ xs) s gone = ap (λ t. caught_up t xs) (undelivered s (Op x.v x.op x.update.source) gone) ∙ stays_with_items xs s gone

stays_with_all : (ms : List Missed) (s : Client) → is_alive s.state ≡ false → with_all s ms ≡ s
stays_with_all [] s gone = refl
stays_with_all (m ∷ ms) s gone = ap (λ t. with_all t ms) (undelivered s (Op s.version m.op m.source) gone) ∙ stays_with_all ms s gone

-- ---- items that are numbered from a client's version on, as it is told of them
pub caught_with : (xs : List Item) (past : List Past) (s : Client) → IsAtEase s → map passed_of xs ≡ numbered s.version past → caught_up s xs ≡ with_all s (map missed_of past)
caught_with [] [] s ease is = refl
caught_with [] (p ∷ past) s ease is = absurd (cc)
caught_with (x ∷ xs) [] s ease is = absurd (cc)
caught_with (x ∷ xs) (p ∷ past) s ease is =
    let first : passed_of x ≡ record { v = s.version; source = p.source; op = p.op } = cc in
    let rest : map passed_of xs ≡ numbered (s.version + 1) past = cc in
    let on = goes_on s p.op p.source ease in
    ap (λ (y : Passed). caught_up (delivered s (Op y.v y.op y.source)) xs) first
    ∙ by (is_alive t.state) refl (λ lives. caught_with xs past t (λ l. (on l).sized) (rest ∙ ap (λ n. numbered n past) (sym (on lives).next)))
  where
    t : Client
    t = with_missed s (missed_of p)

    by : (b : Bool) → is_alive t.state ≡ b → (is_alive t.state ≡ true → caught_up t xs ≡ with_all t (map missed_of past)) → caught_up t xs ≡ with_all t (map missed_of past)
    by true lives goes = goes lives
    by false gone goes = stays_with_items xs t gone ∙ sym (stays_with_all (map missed_of past) t gone)

sized_with : (xs : List Item) (past : List Past) (n : ℕ) → map passed_of xs ≡ numbered n past → AllIn IsSized (ops xs) → All (λ (m : Missed). IsSized m.op) (map missed_of past)
sized_with xs [] n is all = All-nil (λ (m : Missed). IsSized m.op)
sized_with [] (p ∷ past) n is all = absurd (cc)
sized_with (x ∷ xs) (p ∷ past) n is all =
    let first : passed_of x ≡ record { v = n; source = p.source; op = p.op } = cc in
    let rest : map passed_of xs ≡ numbered (n + 1) past = cc in
    All-cons (λ (m : Missed). IsSized m.op) (missed_of p) (map missed_of past) (subst IsSized (ap (λ (y : Passed). y.op) first) all.0) (sized_with xs past (n + 1) rest all.1)

-- ---- a client that left, whose version is within reach
module _ (j : List Entry) (was : Numbered) (legal : IsLegal j) (own : IsClientOf j was) (left : was.now.state ≡ Left) where
  sh : Shows was.client j was.now
  sh = subst (Shows was.client j) (sym own) (shows was.client j legal (ap (λ (s : Client). is_alive s.state) (sym own) ∙ ap is_alive left))

  pub left_doc : IsMade was.now.doc j
  left_doc = sh.made

  pub left_high : was.now.version ≤ version was.now.doc j
  left_high = sh.high

  pub left_ease : IsAtEase was.now
  left_ease = subst IsAtEase (sym own) (at_ease was.client j legal)

  pub left_sized : AreSized was.now.flight was.now.pending
  left_sized = left_ease (ap is_alive left)

  pub may_return : (source v : ℕ) → MayReturn was.now j → v ≡ version was.now.doc j → source ≡ source_at j → IsReturning j was.client was.now.doc was.now.user was.now.track was.now.version source v
  may_return source v may v_is source_is = record {
    left = ap (λ (s : Client). s.state) (sym own) ∙ left;
    since_is = ap (λ (s : Client). s.version) (sym own);
    doc_is = ap (λ (s : Client). s.doc) (sym own);
    user_is = ap (λ (s : Client). s.user) (sym own);
    track_is = ap (λ (s : Client). s.track) (sym own);
    recent = may.1;
    v_is = v_is;
    source_is = source_is;
  }

  -- from its version up to the document's stands all that is left of the list
  items_are : items_between was.now.doc was.now.version (version was.now.doc j) j ≡ items_from was.now.doc was.now.version j
  items_are =
      let n = was.now.version - base was.now.doc j in
      let l = length-drop n (applied_list was.now.doc j) in
      let low = sh.low in
      let count : version was.now.doc j - was.now.version ≡ length (drop n (applied_list was.now.doc j)) = omega (arith, l, low) in
      ap (λ k. take k (drop n (applied_list was.now.doc j))) count ∙ take_all (drop n (applied_list was.now.doc j))

  module _ (window : Recent) (is : IsWindowOf was.now.doc window j) (near : version was.now.doc j ≤ was.now.version + 100) where
    numbered_are : map passed_of (items_from was.now.doc was.now.version j) ≡ passed_by window was.now.version
    numbered_are =
        let b = is.base_is in let v = is.version_is in let low = sh.low in let high = sh.high in
        sym (passed_is was.now.doc was.now.version window j is (le-ltb window.version was.now.version (omega (arith, v, high))) (le-ltb was.now.version window.base (omega (arith, b, low))) (le-ltb (was.now.version + 100) window.version (omega (arith, v, near))))

    pub missed_sized : All (λ (m : Missed). IsSized m.op) (missed_by window was.now.version)
    missed_sized = sized_with (items_from was.now.doc was.now.version j) _ was.now.version numbered_are (ahead_sized was.now.doc was.now.version j legal)

    pub missed_caught : caught_up was.now (items_between was.now.doc was.now.version (version was.now.doc j) j) ≡ with_all was.now (missed_by window was.now.version)
    missed_caught = ap (caught_up was.now) items_are ∙ caught_with (items_from was.now.doc was.now.version j) _ was.now left_ease numbered_are
