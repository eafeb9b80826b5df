-- What the keeper of a book holds, behind one entry more.
use Rattle.std.proofs.Common.{◌≡◌, ◌≢◌, ◌⊎◌, inl, inr, ℕ, ◌+◌, ◌-◌, ◌≤◌, List, [], ◌∷◌, ◌++◌, length, map, take, Bool, true, false, true≢false, ◌||◌, sym, ap, ap₂, ◌∙◌, subst, arith, eqb, append-nil, append_assoc, length-append, All}
use Rattle.std.specs.Prelude.{Option, Some, None, IsTrue, unwrap_or, if◌then◌else◌}
use Rattle.std.specs.List.{list_any}
use Rattle.std.specs.Str.{bytes_eq}
use Rattle.std.proofs.lemmas.Bool.{or_parts}
use Rattle.std.proofs.lemmas.Bool.Decides.{eqb_tells}
use Rattle.std.proofs.lemmas.List.Folds.{list_any-append}
use Rattle.std.proofs.lemmas.Slice.Eq.{bytes_eq-Decides}
use Rattle.std.proofs.lemmas.List.{map-append, take-append-le, length-map}
use Rattle.std.proofs.lemmas.List.Elements.{All-append}
use Rattle.board.specs.declared.view.Start.{Start}
use Rattle.ot_parts.specs.Lines.{lines_of}
use Rattle.ranges_tracker.specs.Cells.{Row, plain_row}
use Rattle.ranges_tracker.specs.Kept.{Kept}
use Rattle.ranges_tracker.specs.Shown.{shown}
use Rattle.keeper.specs.Documents.{Sets, document_of}
use Rattle.journal_entries.specs.declared.act.Act.{Act}
use Rattle.journal_entries.specs.declared.act.Act.TheVariants.{Flushed, FlushFailed}
use Rattle.journal_entries.specs.declared.act.Entry.{Entry}
use Rattle.journal_rules.specs.Documents.{IsMade, Item, Making, applied_list, base, base_in, first_in, items_by, making, name, name_in, replayed, text_at, version}
use Rattle.journal_rules.specs.Keeping.{fault_of, faults, kept, kept_by}
use Rattle.journal_rules.specs.Legal.{IsLegal}
use Rattle.journal_rules.specs.Tracking.{cells_at, tracked}
use Rattle.journal_rules.proofs.Fencing.{made_stays, making_stays}
use Rattle.journal_rules.proofs.Lists.{some_same}
use Rattle.journal_rules.proofs.Pushing.{applied_list-push, faults-none, faults-push, gathered-push, kept-none, kept-push}
use Rattle.journal_rules.proofs.Waits.{all_map, all_none, all_one}
use Rattle.loading_rules.proofs.Names.{names_differ}
use Rattle.loading_rules.proofs.Weakening.{legal_but}
use Rattle.book.specs.Stored.{AreStored, BeganBy, IsKeeping, IsStored, flushed_name, flushed_names, kept_document, was_flushed}

-- ---- what stands at a version stays
module _ (docs : List (List ℕ × Kept)) (d v : ℕ) (j : List Entry) (e : Entry) where
  pub stays_stored : IsStored docs d v j → IsStored docs d v (j ++ e ∷ [])
  stays_stored was = record {
    made = made_stays d j e was.made;
    low = (let n = ap₂ (λ (o : Option Making) (l : List Item). base_in o + length l) same items in let l = length-append (applied_list d j) (items_by d j e.act) in let w = was.low in omega (arith, n, l, w));
    there = ap (λ (o : Option Making). document_of (name_in o) docs) same ∙ was.there ∙ ap (λ (x : Kept). Some x) (sym whole);
  }
    where
      same : making d (j ++ e ∷ []) ≡ making d j
      same = making_stays d j e was.made

      items : applied_list d (j ++ e ∷ []) ≡ applied_list d j ++ items_by d j e.act
      items = applied_list-push d j e

      within : v - base d j ≤ length (applied_list d j)
      within = let w = was.low in omega (arith, w)

      taken : take (v - base d j) (applied_list d j ++ items_by d j e.act) ≡ take (v - base d j) (applied_list d j)
      taken = take-append-le (v - base d j) (applied_list d j) (items_by d j e.act) within

      ops : take (v - base d j) (map (λ (x : Item). x.op) (applied_list d j ++ items_by d j e.act)) ≡ take (v - base d j) (map (λ (x : Item). x.op) (applied_list d j))
      ops = ap (take (v - base d j)) (map-append (λ (x : Item). x.op) (applied_list d j) (items_by d j e.act))
          ∙ take-append-le (v - base d j) (map (λ (x : Item). x.op) (applied_list d j)) (map (λ (x : Item). x.op) (items_by d j e.act)) (let n = length-map (applied_list d j) (λ (x : Item). x.op) in let w = within in omega (arith, n, w))

      text_same : text_at d v (j ++ e ∷ []) ≡ text_at d v j
      text_same = ap₂ (λ (o : Option Making) (l : List Item). replayed (first_in o) (take (v - base_in o) (map (λ (x : Item). x.op) l))) same items ∙ ap (replayed (first_in (making d j))) ops

      cells_same : cells_at d v (j ++ e ∷ []) ≡ cells_at d v j
      cells_same = ap₂ (λ (o : Option Making) (l : List Item). tracked (plain_row (first_in o)) (take (v - base_in o) l)) same items ∙ ap (tracked (plain_row (first_in (making d j)))) taken

      whole : kept_document d v (j ++ e ∷ []) ≡ kept_document d v j
      whole = ap₂ (λ (t : Option (List ℕ)) (r : Row). record { lines = lines_of (unwrap_or t []); version = v; ranges = shown r }) text_same cells_same

-- ---- what was never flushed wasn't before
names-push : (j : List Entry) (e : Entry) → flushed_names (j ++ e ∷ []) ≡ flushed_names j ++ flushed_name j e.act
unfolding flushed_names
names-push j e = gathered-push (λ before e. flushed_name before e.act) j e

flushed_by : (called : List ℕ) (j : List Entry) (e : Entry) → was_flushed called (j ++ e ∷ []) ≡ (was_flushed called j || list_any (λ flushed. bytes_eq called flushed) (flushed_name j e.act))
flushed_by called j e =
    ap (λ ns. list_any (λ flushed. bytes_eq called flushed) ns) (names-push j e) ∙ list_any-append (λ flushed. bytes_eq called flushed) (flushed_names j) (flushed_name j e.act)

pub never_before : (called : List ℕ) (more j : List Entry) → was_flushed called (j ++ more) ≡ false → was_flushed called j ≡ false
never_before called [] j none = ap (was_flushed called) (sym (append-nil j)) ∙ none
never_before called (e ∷ es) j none =
    (or_parts (was_flushed called j) (list_any (λ flushed. bytes_eq called flushed) (flushed_name j e.act))
    (sym (flushed_by called j e) ∙ never_before called es (j ++ e ∷ []) (ap (was_flushed called) (append_assoc j (e ∷ []) es) ∙ none))).0

pub other_name : (called : List ℕ) (j : List Entry) (e : Entry) (doc token v : ℕ) → e.act ≡ Flushed doc token v → was_flushed called (j ++ e ∷ []) ≡ false → called ≢ name doc j
other_name called j e doc token v is none same =
    let each = sym (flushed_by called j e ∙ ap (λ a. was_flushed called j || list_any (λ flushed. bytes_eq called flushed) (flushed_name j a)) is) ∙ none in
    let apart : bytes_eq called (name doc j) ≡ false = (or_parts (bytes_eq called (name doc j)) false (or_parts (was_flushed called j) (bytes_eq called (name doc j) || false) each).1).0 in
    absurd (true≢false (sym ((bytes_eq-Decides called (name doc j)).1 same) ∙ apart))

-- ---- an entry that puts nothing
module _ {tells : Bool} {docs : List (List ℕ × Kept)} {count : ℕ} {start : Start} where
  pub keeps_same : (before after : List Entry) → after ≡ before → IsKeeping tells docs count start before → IsKeeping tells docs count start after
  keeps_same before after same was = subst (IsKeeping tells docs count start) (sym same) was

  pub keeps_push : (j : List Entry) (e : Entry) → ((d : ℕ) (o : Option ℕ) → kept_by d e.act o ≡ o) → fault_of e.act ≡ [] → BeganBy start.faults e.act → IsKeeping tells docs count start j → IsKeeping tells docs count start (j ++ e ∷ [])
  keeps_push j e puts_none no_fault began was = record {
    stored = λ told d v is. stays_stored docs d v j e (was.stored told d v (sym (kept-push d j e ∙ puts_none d (kept d j)) ∙ is));
    others = λ told called none. was.others told called (never_before called (e ∷ []) j none);
    later = was.later;
    began = All-append (λ (x : Entry). BeganBy start.faults x.act) j (e ∷ []) was.began (all_one (λ (x : Entry). BeganBy start.faults x.act) e began);
    ended = subst (λ (l : List ℕ). All (λ end. end ≤ count) l) (sym (faults-push j e ∙ ap (λ l. faults j ++ l) no_fault ∙ append-nil (faults j))) was.ended;
  }

  pub keeps_by : (before mid after : List Entry) (seat : ℕ) (line : Option ℕ) (act : Act) (e : Entry) → e ≡ record { seat = seat; line = line; act = act } → mid ≡ before → after ≡ mid ++ e ∷ []
      → ((d : ℕ) (o : Option ℕ) → kept_by d act o ≡ o) → fault_of act ≡ [] → BeganBy start.faults act → IsKeeping tells docs count start before → IsKeeping tells docs count start after
  keeps_by before mid after seat line act e e_is same more puts_none no_fault began was =
      subst (IsKeeping tells docs count start) (sym (more ∙ ap₂ (λ (l : List Entry) (x : Entry). l ++ x ∷ []) same e_is))
      (keeps_push before (record { seat = seat; line = line; act = act }) puts_none no_fault began was)

  -- no entries
  pub keeps_none : (j : List Entry) → j ≡ [] → start ≡ record { faults = count; documents = docs } → IsKeeping tells docs count start j
  keeps_none j empty same = subst (IsKeeping tells docs count start) (sym empty) (record {
    stored = λ told d v is. (let f : None ≡ Some v = sym (kept-none d) ∙ is in absurd (cc));
    others = λ told called none. ap (λ (s : Start). document_of called s.documents) (sym same);
    later = (let n = ap (λ (s : Start). s.faults) same in omega (arith, n));
    began = all_none (λ (x : Entry). BeganBy start.faults x.act);
    ended = subst (λ (l : List ℕ). All (λ end. end ≤ count) l) (sym faults-none) (all_none (λ end. end ≤ count));
  })

-- ---- the keeper was asked
grown : (count count' : ℕ) (ends : List ℕ) → count ≤ count' → All (λ end. end ≤ count) ends → All (λ end. end ≤ count') ends
grown count count' ends later low = all_map (λ end. end ≤ count) (λ end. end ≤ count') ends (λ end le. omega (arith, le, later)) low

module _ {tells : Bool} {docs docs' : List (List ℕ × Kept)} {count count' : ℕ} {start : Start} (j : List Entry) (was : IsKeeping tells docs count start j) where
  -- and put nothing
  pub keeps_asked : (IsTrue tells → docs' ≡ docs) → count ≤ count' → IsKeeping tells docs' count' start j
  keeps_asked same later = record {
    stored = λ told. subst (λ (l : List (List ℕ × Kept)). AreStored l j) (sym (same told)) (was.stored told);
    others = λ told called none. ap (document_of called) (same told) ∙ was.others told called none;
    later = (let l = was.later in omega (arith, l, later));
    began = was.began;
    ended = grown count count' (faults j) later was.ended;
  }

  -- which is noted
  pub keeps_failed : (e : Entry) (doc token from to : ℕ) → e.act ≡ FlushFailed doc token from to → (IsTrue tells → docs' ≡ docs) → count ≤ count' → start.faults ≤ from → to ≤ count' → IsKeeping tells docs' count' start (j ++ e ∷ [])
  keeps_failed e doc token from to is same later low high = record {
    stored = λ told d v at. stays_stored docs' d v j e (here.stored told d v (sym (kept-push d j e ∙ ap (λ a. kept_by d a (kept d j)) is) ∙ at));
    others = λ told called none. here.others told called (never_before called (e ∷ []) j none);
    later = here.later;
    began = All-append (λ (x : Entry). BeganBy start.faults x.act) j (e ∷ []) was.began (all_one (λ (x : Entry). BeganBy start.faults x.act) e (subst (BeganBy start.faults) (sym is) low));
    ended = subst (λ (l : List ℕ). All (λ end. end ≤ count') l) (sym (faults-push j e ∙ ap (λ a. faults j ++ fault_of a) is)) (All-append (λ end. end ≤ count') (faults j) (to ∷ []) (grown count count' (faults j) later was.ended) (all_one (λ end. end ≤ count') to high));
  }
    where
      here : IsKeeping tells docs' count' start j
      here = keeps_asked same later

  -- a document was put at its version
  pub keeps_put : (e : Entry) (doc token v : ℕ) (put : Kept) → e.act ≡ Flushed doc token v → IsLegal j → IsMade doc j → v ≡ version doc j → put ≡ kept_document doc v j
      → (IsTrue tells → Sets (name doc j) put docs docs') → count ≤ count' → IsKeeping tells docs' count' start (j ++ e ∷ [])
  keeps_put e doc token v put is legal made at put_is set later = record {
    stored = λ told d n kept_is. stays_stored docs' d n j e (by told d n (eqb_tells doc d) (sym (kept-push d j e ∙ ap (λ a. kept_by d a (kept d j)) is) ∙ kept_is));
    others = λ told called none. (set told).others called (other_name called j e doc token v is none) ∙ was.others told called (never_before called (e ∷ []) j none);
    later = (let l = was.later in omega (arith, l, later));
    began = All-append (λ (x : Entry). BeganBy start.faults x.act) j (e ∷ []) was.began (all_one (λ (x : Entry). BeganBy start.faults x.act) e (subst (BeganBy start.faults) (sym is) tt));
    ended = subst (λ (l : List ℕ). All (λ end. end ≤ count') l) (sym (faults-push j e ∙ ap (λ a. faults j ++ fault_of a) is ∙ append-nil (faults j))) (grown count count' (faults j) later was.ended);
  }
    where
      by : IsTrue tells → (d n : ℕ) → ((eqb doc d ≡ true) × (doc ≡ d)) ⊎ ((eqb doc d ≡ false) × (doc ≢ d)) → (if eqb doc d then Some v else kept d j) ≡ Some n → IsStored docs' d n j
      by told d n (inl t) here =
          let n_is : v ≡ n = some_same v n (sym (ap (λ b. if b then Some v else kept d j) t.0) ∙ here) in
          let there : document_of (name doc j) docs' ≡ Some (kept_document doc v j) = (set told).set ∙ ap (λ (x : Kept). Some x) put_is in
          let whole : IsStored docs' doc v j = record { made = made; low = (let a = at in omega (arith, a)); there = there } in
          subst (λ m. IsStored docs' d m j) n_is (subst (λ m. IsStored docs' m v j) t.1 whole)
      by told d n (inr t) here =
          let old = was.stored told d n (sym (ap (λ b. if b then Some v else kept d j) t.0) ∙ here) in
          record {
            made = old.made;
            low = old.low;
            there = (set told).others (name d j) (names_differ j d doc (legal_but j legal) old.made made (λ same. t.1 (sym same))) ∙ old.there;
          }
