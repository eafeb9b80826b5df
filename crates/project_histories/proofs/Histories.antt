-- The projects with their histories, behind one entry more.
use Rattle.std.proofs.Common.{◌≡◌, ◌≢◌, ◌⊎◌, inl, inr, ℕ, zero, suc, ◌+◌, ◌-◌, ◌≤◌, List, [], ◌∷◌, ◌++◌, length, map, take, drop, Bool, true, false, ◌||◌, refl, sym, ap, ap₂, ◌∙◌, subst, arith, eqb, append-nil, length-append, length-drop, slice_set}
use Rattle.std.specs.Prelude.{slice_get, sum, Option, Some, None, unwrap_or, if◌then◌else◌}
use Rattle.std.specs.List.{list_any}
use Rattle.std.specs.Str.{bytes_eq}
use Rattle.std.proofs.lemmas.Bool.Decides.{eqb_tells}
use Rattle.std.proofs.lemmas.List.{drop-map, drop_min, length-map, length-take, map-append}
use Rattle.std.proofs.lemmas.List.Sums.{sum_by-append}
use Rattle.std.proofs.lemmas.Option.{slice_get_within}
use Rattle.std.proofs.lemmas.Slice.Eq.{bytes_eq-Decides}
use Rattle.ot_op.specs.declared.comp.Comp.{Comp}
use Rattle.history_queue.specs.declared.item.Item.{Item}
use Rattle.journal_entries.specs.declared.act.Act.{Act}
use Rattle.journal_entries.specs.declared.act.Act.TheVariants.{Made, Committed, Handed}
use Rattle.journal_entries.specs.declared.act.Entry.{Entry}
use Rattle.journal_entries.specs.declared.update.Update.{Update}
use Rattle.journal_entries.specs.declared.update.Cause.{Cause}
use Rattle.journal_entries.specs.declared.update.Outcome.{Outcome}
use Rattle.journal_entries.specs.declared.update.Outcome.TheVariants.{Applied, Dup, Refused}
use Rattle.journal_rules.specs.Documents.{IsMade, Making, making, making_of, makings, text_at, update_at}
use Rattle.journal_rules.specs.History.{HistoryItem, all_history, handed, handed_by, history, history_by, history_of, is_of_project}
use Rattle.journal_rules.specs.Legal.{IsLegal, is_project}
use Rattle.journal_rules.proofs.Growing.{handed_within, history-handed, history-more, sum-push}
use Rattle.journal_rules.proofs.Legality.{front, last_or, seam}
use Rattle.journal_rules.proofs.Pushing.{all_history-none, all_history-push, handed-push, makings-none, makings-push, makings_still}
use Rattle.journal_rules.proofs.Waits.{by_end}
use Rattle.project_histories.specs.Handing.{left_of, projects_of, shown_item, with_project, with_projects}
use Rattle.project_histories.specs.Histories.{Adds, AddsAt, AreHistories, Changes, ChangesOf, HandsOut, HasItem, Histories, IsHistory, IsOf, IsOfSome, IsRoomier, KeepsAll, names_in, place_of}
use Rattle.project_histories.specs.declared.project.Project.{Project}
use Rattle.project_histories.proofs.Lists.{at_within, first_passes, none_passes, same_item, set_elsewhere, set_here}
use Rattle.project_histories.proofs.Naming.{known, none_handed, none_left, present, projects_apart, projects_of-none, projects_of-push}

abbrev name_by : Project → List ℕ
name_by x = x.name

-- ---- the place of a name
pub place_there : (p : List ℕ) (xs : List Project) (i : ℕ) → place_of p xs ≡ Some i → (x : Project) × (slice_get xs i ≡ Some x) × (x.name ≡ p)
place_there p xs i is = let f = first_passes (λ (x : Project). bytes_eq p x.name) xs i is in (f.0, f.1, sym ((bytes_eq-Decides p f.0.name).0 f.2))

pub name_at : (xs : List Project) (i : ℕ) (x : Project) → slice_get xs i ≡ Some x → slice_get (names_in xs) i ≡ Some x.name
name_at [] i x at = absurd (cc)
name_at (y ∷ ys) zero x at = ap (λ (z : Project). Some z.name) (same_item y x at)
name_at (y ∷ ys) (suc i) x at = name_at ys i x at

any_named : (p : List ℕ) (xs : List Project) → list_any (bytes_eq p) (names_in xs) ≡ list_any (λ (x : Project). bytes_eq p x.name) xs
any_named p [] = refl
any_named p (x ∷ xs) = ap (λ b. bytes_eq p x.name || b) (any_named p xs)

-- a name has a place where the journal has a project of it
pub placed_known : (p : List ℕ) (h : Histories) (j : List Entry) (i : ℕ) → AreHistories h j → place_of p h.projects ≡ Some i → is_project p j ≡ true
placed_known p h j i were is =
    let t = place_there p h.projects i is in
    sym (known p j) ∙ ap (list_any (bytes_eq p)) (sym were.names_are) ∙ present p (names_in h.projects) i (name_at h.projects i t.0 t.1 ∙ ap (λ (n : List ℕ). Some n) t.2)

pub unplaced_unknown : (p : List ℕ) (h : Histories) (j : List Entry) → AreHistories h j → place_of p h.projects ≡ None → is_project p j ≡ false
unplaced_unknown p h j were is = sym (known p j) ∙ ap (list_any (bytes_eq p)) (sym were.names_are) ∙ any_named p h.projects ∙ none_passes (λ (x : Project). bytes_eq p x.name) h.projects is

-- each document that was made is of some project
pub of_some : (d : ℕ) (h : Histories) (j : List Entry) → AreHistories h j → IsMade d j → IsOfSome d h
of_some d h j were made =
    let m = at_within (makings j) d made in
    let o = were.placed d m.0 m.1 in
    record { place = o.place; place_is = o.place_is; within = (let w = slice_get_within (names_in h.projects) o.place m.0.project o.named in let n = length-map h.projects name_by in omega (arith, w, n)) }

-- ---- a project of which an entry says nothing
same_history : (x : Project) (j : List Entry) (e : Entry) → IsLegal j → history_by x.name j e.act ≡ [] → handed_by x.name e.act ≡ [] → IsHistory x j → IsHistory x (j ++ e ∷ [])
same_history x j e legal applies hands was = record {
  left_is = was.left_is ∙ ap (map shown_item) (sym (history-more x.name j e legal hands ∙ ap (λ l. history x.name j ++ l) applies ∙ append-nil (history x.name j)));
  handed_is = was.handed_is ∙ ap sum (sym (handed-push x.name j e ∙ ap (λ l. handed x.name j ++ l) hands ∙ append-nil (handed x.name j)));
}

moved : {d : ℕ} {n : List ℕ} (h h' : Histories) → names_in h'.projects ≡ names_in h.projects → h'.places ≡ h.places → IsOf d n h → IsOf d n h'
moved {d} {n} h h' names places was = record { place = was.place; place_is = ap (λ l. slice_get l d) places ∙ was.place_is; named = ap (λ l. slice_get l was.place) names ∙ was.named }

-- an entry that makes no document, applies nothing and hands nothing out
module _ (h : Histories) where
  pub histories_same : (j k : List Entry) → k ≡ j → AreHistories h j → AreHistories h k
  histories_same j k same were = subst (AreHistories h) (sym same) were

  pub histories_quiet : (j : List Entry) (e : Entry) → IsLegal j → making_of e.act ≡ [] → ((p : List ℕ) → history_by p j e.act ≡ []) → ((p : List ℕ) → handed_by p e.act ≡ []) → AreHistories h j → AreHistories h (j ++ e ∷ [])
  histories_quiet j e legal makes applies hands were = record {
    names_are = were.names_are ∙ sym (ap (with_projects []) (makings_still j e makes));
    count = were.count ∙ sym (ap length (makings_still j e makes));
    placed = λ d m at. were.placed d m (sym (ap (λ l. slice_get l d) (makings_still j e makes)) ∙ at);
    each = λ i x at. same_history x j e legal (applies x.name) (hands x.name) (were.each i x at);
  }

  pub histories_by : (before mid after : List Entry) (seat : ℕ) (line : Option ℕ) (act : Act) (e : Entry) → e ≡ record { seat = seat; line = line; act = act } → mid ≡ before → after ≡ mid ++ e ∷ [] → IsLegal before
      → making_of act ≡ [] → ((p : List ℕ) → history_by p before act ≡ []) → ((p : List ℕ) → handed_by p act ≡ []) → AreHistories h before → AreHistories h after
  histories_by before mid after seat line act e e_is same more legal makes applies hands were =
      subst (AreHistories h) (sym (more ∙ ap₂ (λ (l : List Entry) (x : Entry). l ++ x ∷ []) same e_is))
      (histories_quiet before (record { seat = seat; line = line; act = act }) legal makes applies hands were)

  pub histories_none : (j : List Entry) → j ≡ [] → h.projects ≡ [] → h.places ≡ [] → AreHistories h j
  histories_none j empty projects places = subst (AreHistories h) (sym empty) (record {
    names_are = ap names_in projects ∙ sym projects_of-none;
    count = ap length places ∙ sym (ap length makings-none);
    placed = λ d m at. (let f : None ≡ Some m = ap (λ l. slice_get l d) (sym makings-none) ∙ at in absurd (cc));
    each = λ i x at. (let f : None ≡ Some x = ap (λ l. slice_get l i) (sym projects) ∙ at in absurd (cc));
  })

-- an outcome that isn't applied adds nothing
pub dup_none : (p : List ℕ) (j : List Entry) (doc token ticket v : ℕ) → history_by p j (Committed doc token ticket (Dup v)) ≡ []
dup_none p j doc token ticket v = by (is_of_project p (making doc j)) (update_at j ticket)
  where
    by : (b : Bool) (u : Option Update) → (if b then history_of doc j u (Dup v) else []) ≡ []
    by false u = refl
    by true None = refl
    by true (Some u) = refl

pub refused_none : (p : List ℕ) (j : List Entry) (doc token ticket : ℕ) (cause : Cause) → history_by p j (Committed doc token ticket (Refused cause)) ≡ []
refused_none p j doc token ticket cause = by (is_of_project p (making doc j)) (update_at j ticket)
  where
    by : (b : Bool) (u : Option Update) → (if b then history_of doc j u (Refused cause) else []) ≡ []
    by false u = refl
    by true None = refl
    by true (Some u) = refl

-- ---- room was made
pub histories_kept : (h h' : Histories) (j : List Entry) → KeepsAll h h' → AreHistories h j → AreHistories h' j
histories_kept h h' j keeps were = record {
  names_are = ap names_in keeps.projects_are ∙ were.names_are;
  count = ap length keeps.places_are ∙ were.count;
  placed = λ d m at. moved h h' (ap names_in keeps.projects_are) keeps.places_are (were.placed d m at);
  each = λ i x at. were.each i x (ap (λ l. slice_get l i) (sym keeps.projects_are) ∙ at);
}

-- ---- one project is another
names_set : (xs : List Project) (i : ℕ) (was now : Project) → slice_get xs i ≡ Some was → now.name ≡ was.name → names_in (slice_set xs i now) ≡ names_in xs
names_set [] i was now at same = absurd (cc)
names_set (x ∷ xs) zero was now at same = ap (λ n. n ∷ names_in xs) (same ∙ ap name_by (sym (same_item x was at)))
names_set (x ∷ xs) (suc i) was now at same = ap (λ l. x.name ∷ l) (names_set xs i was now at same)

changed : (h h' : Histories) (j k : List Entry) (place : ℕ) {R : Project → Project → Type 0} (t : Changes place R h h') → t.now.name ≡ t.was.name → projects_of k ≡ projects_of j → makings k ≡ makings j
    → IsHistory t.now k → ((i : ℕ) (x : Project) → i ≢ place → slice_get h.projects i ≡ Some x → IsHistory x j → IsHistory x k) → AreHistories h j → AreHistories h' k
changed h h' j k place t same names makes here others were = record {
  names_are = renamed ∙ were.names_are ∙ sym names;
  count = ap length t.places_are ∙ were.count ∙ sym (ap length makes);
  placed = λ d m at. moved h h' renamed t.places_are (were.placed d m (sym (ap (λ l. slice_get l d) makes) ∙ at));
  each = λ i x at. by i x (ap (λ l. slice_get l i) (sym t.set_is) ∙ at) (eqb_tells place i);
}
  where
    renamed : names_in h'.projects ≡ names_in h.projects
    renamed = ap names_in t.set_is ∙ names_set h.projects place t.was t.now t.at same

    by : (i : ℕ) (x : Project) → slice_get (slice_set h.projects place t.now) i ≡ Some x → ((eqb place i ≡ true) × (place ≡ i)) ⊎ ((eqb place i ≡ false) × (place ≢ i)) → IsHistory x k
    by i x at (inl s) = subst (λ (y : Project). IsHistory y k) (sym (set_here h.projects place t.now x (subst (λ n. slice_get (slice_set h.projects place t.now) n ≡ Some x) (sym s.1) at))) here
    by i x at (inr s) =
        let old = set_elsewhere h.projects place i t.now x (λ is. s.1 (sym is)) at in
        others i x (λ is. s.1 (sym is)) old (were.each i x old)

pub histories_roomier : (h h' : Histories) (j : List Entry) (doc : ℕ) → ChangesOf doc IsRoomier h h' → AreHistories h j → AreHistories h' j
histories_roomier h h' j doc t were =
    let x = were.each t.place t.changes.was t.changes.at in
    let is = t.changes.is in
    changed h h' j j t.place t.changes is.name_is refl refl
    (record { left_is = is.left_is ∙ x.left_is ∙ ap (λ p. left_of p j) (sym is.name_is); handed_is = is.handed_is ∙ x.handed_is ∙ ap (λ p. sum (handed p j)) (sym is.name_is) })
    (λ i y apart at was. was) were

-- another project has another name
named_apart : (h : Histories) (j : List Entry) (i place : ℕ) (x : Project) (p : List ℕ) → AreHistories h j → i ≢ place → slice_get h.projects i ≡ Some x → slice_get (names_in h.projects) place ≡ Some p → bytes_eq p x.name ≡ false
named_apart h j i place x p were apart at named = by (bytes_eq p x.name) refl
  where
    there : (k : ℕ) (n : List ℕ) → slice_get (names_in h.projects) k ≡ Some n → slice_get (projects_of j) k ≡ Some n
    there k n is = ap (λ l. slice_get l k) (sym were.names_are) ∙ is

    by : (b : Bool) → bytes_eq p x.name ≡ b → b ≡ false
    by false is = refl
    by true is =
        let same : p ≡ x.name = (bytes_eq-Decides p x.name).0 is in
        absurd (apart (projects_apart j i place p (there i p (name_at h.projects i x at ∙ ap (λ (n : List ℕ). Some n) (sym same))) (there place p named)))

-- ---- an operation was applied
pub histories_applied : (h h' : Histories) (j : List Entry) (e : Entry) (doc token ticket v : ℕ) (op : List Comp) (u : Update) (text : List ℕ) (item : Item) → IsLegal j
    → e.act ≡ Committed doc token ticket (Applied v op) → update_at j ticket ≡ Some u → text_at doc v j ≡ Some text → IsMade doc j
    → item ≡ record { doc = doc; v = v; op = op; user = u.user; ms = u.ms; length_before = length text } → ChangesOf doc (HasItem item) h h' → AreHistories h j → AreHistories h' (j ++ e ∷ [])
histories_applied h h' j e doc token ticket v op u text item legal is named read made item_is t were =
    changed h h' j (j ++ e ∷ []) t.place c c.is.name_is (ap (with_projects []) same) same here (λ i x apart at was. same_history x j e legal (elsewhere i x apart at) (ap (handed_by x.name) is) was) were
  where
    c : Changes t.place (HasItem item) h h'
    c = t.changes

    same : makings (j ++ e ∷ []) ≡ makings j
    same = makings_still j e (ap making_of is)

    p : List ℕ
    p = c.was.name

    -- the document's project is that of this place
    m : (m : Making) × (making doc j ≡ Some m)
    m = at_within (makings j) doc made

    at_place : slice_get (names_in h.projects) t.place ≡ Some m.0.project
    at_place = let o = were.placed doc m.0 m.1 in ap (slice_get (names_in h.projects)) (same_item t.place o.place (sym t.place_is ∙ o.place_is)) ∙ o.named

    own : m.0.project ≡ p
    own = same_item m.0.project p (sym at_place ∙ name_at h.projects t.place c.was c.at)

    by_name : (q : List ℕ) (b : Bool) → bytes_eq m.0.project q ≡ b → history_by q j e.act ≡ (if b then history_of doc j (update_at j ticket) (Applied v op) else [])
    by_name q b told = ap (history_by q j) is ∙ ap (λ (o : Option Making). if is_of_project q o then history_of doc j (update_at j ticket) (Applied v op) else []) m.1 ∙ ap (λ x. if x then history_of doc j (update_at j ticket) (Applied v op) else []) told

    elsewhere : (i : ℕ) (x : Project) → i ≢ t.place → slice_get h.projects i ≡ Some x → history_by x.name j e.act ≡ []
    elsewhere i x apart at = by_name x.name false (named_apart h j i t.place x m.0.project were apart at at_place)

    one : HistoryItem
    one = record { doc = doc; v = v; op = op; user = u.user; ms = u.ms; length_before = length (unwrap_or (text_at doc v j) []) }

    adds : history_by p j e.act ≡ one ∷ []
    adds = by_name p true ((bytes_eq-Decides m.0.project p).1 own) ∙ ap (λ o. history_of doc j o (Applied v op)) named

    shows : item ≡ shown_item one
    shows = item_is ∙ ap (λ (o : Option (List ℕ)). record { doc = doc; v = v; op = op; user = u.user; ms = u.ms; length_before = length (unwrap_or o []) }) (sym read)

    hands : (q : List ℕ) → handed_by q e.act ≡ []
    hands q = ap (handed_by q) is

    left : left_of p (j ++ e ∷ []) ≡ left_of p j ++ item ∷ []
    left = ap (map shown_item) (history-more p j e legal (hands p) ∙ ap (λ l. history p j ++ l) adds) ∙ map-append shown_item (history p j) (one ∷ []) ∙ ap (λ (x : Item). left_of p j ++ x ∷ []) (sym shows)

    out : sum (handed p (j ++ e ∷ [])) ≡ sum (handed p j)
    out = ap sum (handed-push p j e ∙ ap (λ l. handed p j ++ l) (hands p) ∙ append-nil (handed p j))

    here : IsHistory c.now (j ++ e ∷ [])
    here =
        let was = were.each t.place c.was c.at in
        record {
          left_is = c.is.left_is ∙ ap (λ l. l ++ item ∷ []) was.left_is ∙ sym left ∙ ap (λ q. left_of q (j ++ e ∷ [])) (sym c.is.name_is);
          handed_is = c.is.handed_is ∙ was.handed_is ∙ sym out ∙ ap (λ q. sum (handed q (j ++ e ∷ []))) (sym c.is.name_is);
        }

-- ---- items were handed out
pub histories_handed : (h h' : Histories) (j : List Entry) (e : Entry) (p : List ℕ) (n count place : ℕ) → IsLegal j → e.act ≡ Handed p count → place_of p h.projects ≡ Some place
    → (t : Changes place (HandsOut n) h h') → count ≡ length (take n t.was.queue.items) → AreHistories h j → AreHistories h' (j ++ e ∷ [])
histories_handed h h' j e p n count place legal is at t count_is were =
    changed h h' j (j ++ e ∷ []) place t t.is.name_is (ap (with_projects []) same) same here (λ i x apart there was. same_history x j e legal (ap (history_by x.name j) is) (elsewhere i x apart there) was) were
  where
    same : makings (j ++ e ∷ []) ≡ makings j
    same = makings_still j e (ap making_of is)

    own : t.was.name ≡ p
    own = let x = place_there p h.projects place at in ap name_by (same_item t.was x.0 (sym t.at ∙ x.1)) ∙ x.2

    named : slice_get (names_in h.projects) place ≡ Some p
    named = name_at h.projects place t.was t.at ∙ ap (λ (q : List ℕ). Some q) own

    elsewhere : (i : ℕ) (x : Project) → i ≢ place → slice_get h.projects i ≡ Some x → handed_by x.name e.act ≡ []
    elsewhere i x apart there = ap (handed_by x.name) is ∙ ap (λ b. if b then count ∷ [] else []) (named_apart h j i place x p were apart there named)

    hands : handed_by p e.act ≡ count ∷ []
    hands = ap (handed_by p) is ∙ ap (λ b. if b then count ∷ [] else []) ((bytes_eq-Decides p p).1 refl)

    was : IsHistory t.was j
    was = were.each place t.was t.at

    items : t.was.queue.items ≡ left_of p j
    items = was.left_is ∙ ap (λ q. left_of q j) own

    fewer : drop n t.was.queue.items ≡ left_of p (j ++ e ∷ [])
    fewer =
        sym (drop_min n t.was.queue.items) ∙ ap (λ k. drop k t.was.queue.items) (sym (count_is ∙ length-take n t.was.queue.items)) ∙ ap (drop count) items ∙ drop-map shown_item count (history p j)
        ∙ ap (map shown_item) (sym (history-handed p j e count hands (ap (history_by p j) is)))

    more : sum (handed p (j ++ e ∷ [])) ≡ sum (handed p j) + count
    more = ap sum (handed-push p j e ∙ ap (λ l. handed p j ++ l) hands) ∙ sum-push (handed p j) count

    here : IsHistory t.now (j ++ e ∷ [])
    here = record {
      left_is = t.is.left_is ∙ fewer ∙ ap (λ q. left_of q (j ++ e ∷ [])) (sym (t.is.name_is ∙ own));
      handed_is = t.is.handed_is ∙ ap₂ (λ a b. a + b) (was.handed_is ∙ ap (λ q. sum (handed q j)) own) (sym count_is) ∙ sym more ∙ ap (λ q. sum (handed q (j ++ e ∷ []))) (sym (t.is.name_is ∙ own));
    }

-- ---- a document was made
pub histories_made : (h h' : Histories) (j : List Entry) (e : Entry) (doc : ℕ) (name project first : List ℕ) (base : ℕ) → IsLegal j → e.act ≡ Made doc name project first base → Adds project h h' → AreHistories h j → AreHistories h' (j ++ e ∷ [])
histories_made h h' j e doc name project first base legal is adds were = by (place_of project h.projects) refl adds
  where
    k : List Entry
    k = j ++ e ∷ []

    made : Making
    made = record { name = name; project = project; first = first; base = base }

    makes : makings k ≡ makings j ++ made ∷ []
    makes = makings-push j e ∙ ap (λ a. makings j ++ making_of a) is

    names : projects_of k ≡ with_project (projects_of j) project
    names = projects_of-push j e ∙ ap (λ a. with_projects (projects_of j) (making_of a)) is

    longer : (i : ℕ) (more : List Project) → h'.projects ≡ h.projects ++ more → (n : List ℕ) → slice_get (names_in h.projects) i ≡ Some n → slice_get (names_in h'.projects) i ≡ Some n
    longer i more projects n at = ap (λ l. slice_get l i) (ap names_in projects ∙ map-append name_by h.projects more) ∙ front (names_in h.projects) (names_in more) i n at

    counted : (place : ℕ) → h'.places ≡ h.places ++ place ∷ [] → length h'.places ≡ length (makings k)
    counted place places = let a = ap length places ∙ length-append h.places (place ∷ []) in let b = ap length makes ∙ length-append (makings j) (made ∷ []) in let c = were.count in omega (arith, a, b, c)

    put : (place : ℕ) (more : List Project) → h'.projects ≡ h.projects ++ more → h'.places ≡ h.places ++ place ∷ [] → slice_get (names_in h'.projects) place ≡ Some project → (d : ℕ) (m : Making) → making d k ≡ Some m → IsOf d m.project h'
    put place more projects places named d m at = ends (last_or (makings j) made d m (ap (λ l. slice_get l d) (sym makes) ∙ at))
      where
        ends : (slice_get (makings j) d ≡ Some m) ⊎ ((d ≡ length (makings j)) × (m ≡ made)) → IsOf d m.project h'
        ends (inl old) = let o = were.placed d m old in record { place = o.place; place_is = ap (λ l. slice_get l d) places ∙ front h.places (place ∷ []) d o.place o.place_is; named = longer o.place more projects m.project o.named }
        ends (inr new) = record {
          place = place;
          place_is = ap₂ (λ l n. slice_get l n) places (new.0 ∙ sym were.count) ∙ seam h.places place [];
          named = named ∙ ap (λ (x : Making). Some x.project) (sym new.1);
        }

    stays : (x : Project) → IsHistory x j → IsHistory x k
    stays x was = same_history x j e legal (ap (history_by x.name j) is) (ap (handed_by x.name) is) was

    by : (o : Option ℕ) → place_of project h.projects ≡ o → AddsAt project o h h' → AreHistories h' k
    by (Some place) at a =
        let x = place_there project h.projects place at in
        let named : slice_get (names_in h.projects) place ≡ Some project = name_at h.projects place x.0 x.1 ∙ ap (λ (n : List ℕ). Some n) x.2 in
        let there : list_any (bytes_eq project) (projects_of j) ≡ true = known project j ∙ placed_known project h j place were at in
        record {
          names_are = ap names_in a.0 ∙ were.names_are ∙ sym (names ∙ ap (λ b. if b then projects_of j else projects_of j ++ project ∷ []) there);
          count = counted place a.1;
          placed = put place [] (a.0 ∙ sym (append-nil h.projects)) a.1 (ap (λ (l : List Project). slice_get (names_in l) place) a.0 ∙ named);
          each = λ i y at_y. stays y (were.each i y (ap (λ l. slice_get l i) (sym a.0) ∙ at_y));
        }
    by None at a =
        let x = a.0 in
        let new = a.1 in
        let unknown = unplaced_unknown project h j were at in
        let absent : list_any (bytes_eq project) (projects_of j) ≡ false = known project j ∙ unknown in
        let named : slice_get (names_in (h.projects ++ x ∷ [])) (length h.projects) ≡ Some project = name_at (h.projects ++ x ∷ []) (length h.projects) x (seam h.projects x []) ∙ ap (λ (n : List ℕ). Some n) new.name_is in
        let fresh : IsHistory x j = record {
          left_is = new.none_left ∙ ap (map shown_item) (sym (none_left project j legal unknown)) ∙ ap (λ q. left_of q j) (sym new.name_is);
          handed_is = new.none_handed ∙ ap sum (sym (none_handed project j legal unknown)) ∙ ap (λ q. sum (handed q j)) (sym new.name_is);
        } in
        record {
          names_are = ap names_in a.2 ∙ map-append name_by h.projects (x ∷ []) ∙ ap₂ (λ (l : List (List ℕ)) (n : List ℕ). l ++ n ∷ []) were.names_are new.name_is ∙ sym (names ∙ ap (λ b. if b then projects_of j else projects_of j ++ project ∷ []) absent);
          count = counted (length h.projects) a.3;
          placed = put (length h.projects) (x ∷ []) a.2 a.3 (ap (λ (l : List Project). slice_get (names_in l) (length h.projects)) a.2 ∙ named);
          each = λ i y at_y. ends i y fresh (last_or h.projects x i y (ap (λ l. slice_get l i) (sym a.2) ∙ at_y));
        }
      where
        ends : (i : ℕ) (y : Project) → IsHistory a.0 j → (slice_get h.projects i ≡ Some y) ⊎ ((i ≡ length h.projects) × (y ≡ a.0)) → IsHistory y k
        ends i y fresh (inl old) = stays y (were.each i y old)
        ends i y fresh (inr is_x) = stays y (subst (λ (z : Project). IsHistory z j) (sym is_x.1) fresh)

-- ---- no more items than entries
one_at_most : (p : List ℕ) (h : List Entry) (a : Act) → length (history_by p h a) ≤ 1
one_at_most p h (Committed doc token ticket outcome) = by (is_of_project p (making doc h)) (update_at h ticket) outcome
  where
    by : (b : Bool) (u : Option Update) (o : Outcome) → length (if b then history_of doc h u o else []) ≤ 1
    by false u o = omega arith
    by true None o = omega arith
    by true (Some u) (Applied v op) = omega arith
    by true (Some u) (Dup v) = omega arith
    by true (Some u) (Refused cause) = omega arith
one_at_most p h _ = omega arith

short_history : (p : List ℕ) (j : List Entry) → length (all_history p j) ≤ length j
short_history p = by_end (λ j. length (all_history p j) ≤ length j) (let n = ap length (all_history-none p) in omega (arith, n)) more
  where
    more : (h : List Entry) (e : Entry) → length (all_history p h) ≤ length h → length (all_history p (h ++ e ∷ [])) ≤ length (h ++ e ∷ [])
    more h e was =
        let n = ap length (all_history-push p h e) ∙ length-append (all_history p h) (history_by p h e.act) in
        let l = length-append h (e ∷ []) in
        let one = one_at_most p h e.act in
        omega (arith, n, l, one, was)

pub few_items : (h : Histories) (j : List Entry) (i : ℕ) (x : Project) → IsLegal j → AreHistories h j → slice_get h.projects i ≡ Some x → x.handed + length x.queue.items ≤ length j
few_items h j i x legal were at =
    let was = were.each i x at in
    let out = was.handed_is in
    let left = ap length was.left_is ∙ length-map (history x.name j) shown_item ∙ length-drop (sum (handed x.name j)) (all_history x.name j) in
    let within = handed_within x.name j legal in
    let short = short_history x.name j in
    omega (arith, out, left, within, short)
