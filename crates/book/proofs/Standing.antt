-- One document of the desk as the journal has it.
use Rattle.std.proofs.Common.{◌≡◌, ℕ, suc, ◌+◌, ◌-◌, ◌≤◌, List, [], ◌∷◌, ◌++◌, length, map, true, false, refl, sym, ap, ap₂, ◌∙◌, subst, arith, append-nil, length-append, All}
use Rattle.std.specs.Prelude.{slice_get, Option, Some, None}
use Rattle.std.proofs.lemmas.List.{map-append, length-map, length-drop}
use Rattle.std.proofs.lemmas.List.Elements.{All-nil, All-push, All-drop}
use Rattle.ot_op.specs.declared.comp.Comp.{Comp}
use Rattle.ranges_tracker.specs.Cells.{Row, plain_row, steps}
use Rattle.ranges_tracker.specs.Shown.{shown}
use Rattle.ranges_tracker.specs.declared.change.Change.{Change}
use Rattle.ranges_tracker.specs.declared.comment.Comment.{Comment}
use Rattle.dup_check.specs.declared.past.Past.{Past}
use Rattle.dup_check.specs.Window.{Recent, most, recent}
use Rattle.dup_check.specs.Snapshot.{numbered}
use Rattle.dup_check.proofs.Windows.{recent-push}
use Rattle.journal_entries.specs.declared.update.Update.{Update}
use Rattle.journal_entries.specs.declared.update.Outcome.{Outcome}
use Rattle.journal_entries.specs.declared.update.Outcome.TheVariants.{Applied, Dup, Refused}
use Rattle.journal_entries.specs.declared.act.Entry.{Entry}
use Rattle.journal_rules.specs.Documents.{Making, makings, first_in, base_in, base, Item, item_of, applied_list, replayed, waiting, text, version}
use Rattle.journal_rules.specs.Tracking.{tracked, cells, stamp_of}
use Rattle.journal_rules.specs.Deciding.{Passed, passed_of, longest}
use Rattle.journal_rules.proofs.Replaying.{replays_on}
use Rattle.book.specs.declared.document.Document.{Document}
use Rattle.ranges_tracker.specs.Trackable.{IsTracked}
use Rattle.loading_rules.specs.Passable.{IsPassable}
use Rattle.book.specs.Deciding.{Becomes, IsSame, WasApplied}
use Rattle.journal_rules.specs.Keeping.{cached, kept}
use Rattle.book.specs.Standing.{lock_of, past_of, pasts, IsDecidable, IsDocument, IsNew, IsWindowOf}
use Rattle.journal_sizes.specs.Sizes.{IsLight}
use Rattle.loading_rules.proofs.Reaching.{near_enough}
use Rattle.ranges_tracker.proofs.Versions.{plain_tracked, steps_tracked}
use Rattle.journal_rules.proofs.Growing.{tracked-append}

pub same_self : (document : Document) → IsSame document document
same_self document = record { text_is = refl; ranges_are = refl; window_is = refl }

-- a journal that says the same of a document
window_moved : (d : ℕ) (window : Recent) (j k : List Entry) → slice_get (makings k) d ≡ slice_get (makings j) d → applied_list d k ≡ applied_list d j → IsWindowOf d window j → IsWindowOf d window k
window_moved d window j k ms items was = record {
  base_is = was.base_is ∙ ap base_in (sym ms);
  version_is = was.version_is ∙ sym (ap₂ (λ (o : Option Making) (l : List Item). base_in o + length l) ms items);
  last_is = was.last_is ∙ ap (λ (l : List Item). recent (map past_of l)) (sym items);
  numbered_are = ap (λ (l : List Item). map passed_of l) items ∙ was.numbered_are ∙ sym (ap₂ (λ (o : Option Making) (l : List Item). numbered (base_in o) (map past_of l)) ms items);
  small = subst (λ (l : List Item). All (λ (x : Past). IsPassable x.op) (map past_of l)) (sym items) was.small;
}

tracked_moved : (row row' : Row) (text text' : List ℕ) (ranges ranges' : List Change × List Comment) (v v' : ℕ) → row' ≡ row → text' ≡ text → ranges' ≡ ranges → v' ≡ v → IsTracked row text ranges v → IsTracked row' text' ranges' v'
tracked_moved row row' text text' ranges ranges' v v' rows texts shows versions was = rw (rows, texts, shows, versions) was

pub moved : (d : ℕ) (old new : Document) (j k : List Entry) → slice_get (makings k) d ≡ slice_get (makings j) d → applied_list d k ≡ applied_list d j → IsSame old new → new.waiting.items ≡ waiting d k → new.lock ≡ lock_of d k → new.kept ≡ kept d k → cached d k ≡ true → IsDocument d old j → IsDocument d new k
moved d old new j k ms items same waits locks keeps caches was = record {
  text_is = ap₂ (λ (o : Option Making) (l : List Item). replayed (first_in o) (map (λ x. x.op) l)) ms items ∙ was.text_is ∙ ap (λ t. Some t) (sym same.text_is);
  short = subst (λ (t : List ℕ). length t ≤ longest) (sym same.text_is) was.short;
  tracked = tracked_moved (cells d j) (cells d k) old.text new.text old.ranges new.ranges (version d j) (version d k)
      (ap₂ (λ (o : Option Making) (l : List Item). tracked (plain_row (first_in o)) l) ms items) same.text_is same.ranges_are
      (ap₂ (λ (o : Option Making) (l : List Item). base_in o + length l) ms items) was.tracked;
  window_is = subst (λ (w : Recent). IsWindowOf d w k) (sym same.window_is) (window_moved d old.window j k ms items was.window_is);
  waiting_is = waits;
  lock_is = locks;
  kept_is = keeps;
  cached_is = caches;
}

-- a document that was just made
pub made_new : (d : ℕ) (new : Document) (j : List Entry) (m : Making) → slice_get (makings j) d ≡ Some m → applied_list d j ≡ [] → waiting d j ≡ [] → lock_of d j ≡ record { last = 0; until = 0; seat = 0; held = false } → kept d j ≡ None → cached d j ≡ true → length m.first ≤ longest → IsNew new m.first m.base → IsDocument d new j
made_new d new j m ms items idle locks keeps caches short is = record {
  text_is = ap₂ (λ (o : Option Making) (l : List Item). replayed (first_in o) (map (λ x. x.op) l)) ms items ∙ ap (λ t. Some t) (sym is.text_is);
  short = subst (λ (t : List ℕ). length t ≤ longest) (sym is.text_is) short;
  tracked = tracked_moved (plain_row m.first) (cells d j) m.first new.text ([], []) new.ranges (m.base + 0) (version d j)
      (ap₂ (λ (o : Option Making) (l : List Item). tracked (plain_row (first_in o)) l) ms items) is.text_is is.ranges_are
      (ap₂ (λ (o : Option Making) (l : List Item). base_in o + length l) ms items) (plain_tracked m.first (m.base + 0));
  window_is = record {
    base_is = ap (λ (w : Recent). w.base) is.window_is ∙ ap base_in (sym ms);
    version_is = ap (λ (w : Recent). w.version) is.window_is ∙ (let z : m.base ≡ m.base + 0 = omega arith in z) ∙ sym (ap₂ (λ (o : Option Making) (l : List Item). base_in o + length l) ms items);
    last_is = ap (λ (w : Recent). w.last) is.window_is ∙ ap (λ (l : List Item). recent (map past_of l)) (sym items);
    numbered_are = ap (λ (l : List Item). map passed_of l) items ∙ sym (ap₂ (λ (o : Option Making) (l : List Item). numbered (base_in o) (map past_of l)) ms items);
    small = subst (λ (l : List Item). All (λ (x : Past). IsPassable x.op) (map past_of l)) (sym items) (All-nil (λ (x : Past). IsPassable x.op));
  };
  waiting_is = is.waiting_is ∙ sym idle;
  lock_is = is.lock_is ∙ sym locks;
  kept_is = is.kept_is ∙ sym keeps;
  cached_is = caches;
}

-- operations with their versions, and one more
numbered-push : (v : ℕ) (xs : List Past) (x : Past) → numbered v (xs ++ x ∷ []) ≡ numbered v xs ++ record { v = v + length xs; source = x.source; op = x.op } ∷ []
numbered-push v [] x = ap (λ n. record { v = n; source = x.source; op = x.op } ∷ []) (let z : v ≡ v + 0 = omega arith in z)
numbered-push v (y ∷ ys) x =
    ap (λ l. record { v = v; source = y.source; op = y.op } ∷ l)
    (numbered-push (v + 1) ys x ∙ ap (λ n. numbered (v + 1) ys ++ record { v = n; source = x.source; op = x.op } ∷ []) (let z : v + 1 + length ys ≡ v + suc (length ys) = omega arith in z))

-- a document to which an operation was applied
applied_on : (d : ℕ) (old new : Document) (j k : List Entry) (ticket v : ℕ) (u : Update) (op : List Comp) → slice_get (makings k) d ≡ slice_get (makings j) d → applied_list d k ≡ applied_list d j ++ item_of ticket (Some u) (Applied v op) → new.waiting.items ≡ waiting d k → new.lock ≡ lock_of d k → new.kept ≡ kept d k → cached d k ≡ true → WasApplied old u v op new → IsDocument d old j → IsDocument d new k
applied_on d old new j k ticket v u op ms items waits locks keeps caches is was = record {
  text_is = ap₂ (λ (o : Option Making) (l : List Item). replayed (first_in o) (map (λ x. x.op) l)) ms items ∙ replays_on (first_in (slice_get (makings j) d)) old.text new.text (applied_list d j) x was.text_is is.text_is;
  short = is.short;
  tracked = tracked_moved (steps (cells d j) op (stamp_of x) 0).row (cells d k) new.text new.text (shown (steps (cells d j) op (stamp_of x) 0).row) new.ranges (version d j + 1) (version d k) rows refl (sym shows) next_version
      (steps_tracked (cells d j) old.text new.text old.ranges op (stamp_of x) (version d j) at was.tracked is.text_is);
  window_is = record {
    base_is = ap (λ (w : Recent). w.base) is.window_is ∙ was.window_is.base_is ∙ ap base_in (sym ms);
    version_is = ap (λ (w : Recent). w.version) is.window_is ∙ ap (λ n. n + 1) was.window_is.version_is ∙ sym next_version;
    last_is = ap (λ (w : Recent). w.last) is.window_is ∙ ap (λ l. recent (l ++ p ∷ [])) was.window_is.last_is ∙ recent-push (pasts d j) p ∙ ap recent (sym more_pasts);
    numbered_are = ap (λ (l : List Item). map passed_of l) items ∙ map-append passed_of (applied_list d j) (x ∷ [])
        ∙ ap₂ (λ (l : List Passed) (n : ℕ). l ++ record { v = n; source = u.source; op = op } ∷ []) was.window_is.numbered_are counted
        ∙ sym (numbered-push (base d j) (pasts d j) p)
        ∙ ap₂ (λ (o : Option Making) (l : List Past). numbered (base_in o) l) (sym ms) (sym more_pasts);
    small = subst (λ (l : List Past). All (λ (y : Past). IsPassable y.op) l) (sym more_pasts) (All-push (λ (y : Past). IsPassable y.op) (pasts d j) p was.window_is.small
        (let light : IsLight op = record { units = is.small.units; comments = is.small.comments } in record { light = light; near = near_enough old.text new.text op was.short light is.text_is }));
  };
  waiting_is = waits;
  lock_is = locks;
  kept_is = keeps;
  cached_is = caches;
}
  where
    x : Item
    x = record { op = op; v = v; ticket = ticket; update = u }

    p : Past
    p = record { source = u.source; op = op }

    at : v ≡ version d j
    at = is.version_is ∙ was.window_is.version_is

    rows : cells d k ≡ (steps (cells d j) op (stamp_of x) 0).row
    rows = ap₂ (λ (o : Option Making) (l : List Item). tracked (plain_row (first_in o)) l) ms items ∙ tracked-append (plain_row (first_in (slice_get (makings j) d))) (applied_list d j) (x ∷ [])

    next_version : version d k ≡ version d j + 1
    next_version =
        let n = ap₂ (λ (o : Option Making) (l : List Item). base_in o + length l) ms items in
        let l = length-append (applied_list d j) (x ∷ []) in
        omega (arith, n, l)

    more_pasts : pasts d k ≡ pasts d j ++ p ∷ []
    more_pasts = ap (λ (l : List Item). map past_of l) items ∙ map-append past_of (applied_list d j) (x ∷ [])

    counted : v ≡ base d j + length (pasts d j)
    counted = at ∙ ap (λ n. base d j + n) (sym (length-map (applied_list d j) past_of))

    shows : shown (steps (cells d j) op (stamp_of x) 0).row ≡ new.ranges
    shows = is.ranges_are (cells d j) (tracked_moved (cells d j) (cells d j) old.text old.text old.ranges old.ranges (version d j) v refl refl refl at was.tracked)

pub applied_document : (d : ℕ) (old new : Document) (j k : List Entry) (ticket : ℕ) (u : Update) (outcome : Outcome) → slice_get (makings k) d ≡ slice_get (makings j) d → applied_list d k ≡ applied_list d j ++ item_of ticket (Some u) outcome → new.waiting.items ≡ waiting d k → new.lock ≡ lock_of d k → new.kept ≡ kept d k → cached d k ≡ true → Becomes old u new outcome → IsDocument d old j → IsDocument d new k
applied_document d old new j k ticket u (Applied v op) ms items waits locks keeps caches is was = applied_on d old new j k ticket v u op ms items waits locks keeps caches is was
applied_document d old new j k ticket u (Dup v) ms items waits locks keeps caches is was = moved d old new j k ms (items ∙ append-nil (applied_list d j)) is waits locks keeps caches was
applied_document d old new j k ticket u (Refused cause) ms items waits locks keeps caches is was = moved d old new j k ms (items ∙ append-nil (applied_list d j)) is waits locks keeps caches was

-- updates can be decided on by it
pub is_decidable : (d : ℕ) (document : Document) (j : List Entry) → IsDocument d document j → IsDecidable document
is_decidable d document j was = record {
  row = cells d j;
  tracked = tracked_moved (cells d j) (cells d j) document.text document.text document.ranges document.ranges (version d j) document.window.version refl refl refl was.window_is.version_is was.tracked;
  short = was.short;
  small = subst (λ (l : List Past). All (λ (x : Past). IsPassable x.op) l) (sym was.window_is.last_is) (All-drop (λ (x : Past). IsPassable x.op) _ (pasts d j) was.window_is.small);
  from_base = omega (arith, base_is, version_is);
  whole = ap length was.window_is.last_is ∙ length-drop (length (pasts d j) - most) (pasts d j) ∙ (omega (arith, base_is, version_is, count));
}
  where
    base_is : document.window.base ≡ base d j
    base_is = was.window_is.base_is

    version_is : document.window.version ≡ base d j + length (applied_list d j)
    version_is = was.window_is.version_is

    count : length (pasts d j) ≡ length (applied_list d j)
    count = length-map (applied_list d j) past_of
