-- The histories of a book's projects, as its calls tell and hand them out.
use Rattle.std.proofs.Common.{◌≡◌, ℕ, ◌<◌, List, length, sym, ap, ◌∙◌, arith}
use Rattle.std.specs.Prelude.{slice_get, take, Some}
use Rattle.std.proofs.lemmas.List.{length-map, length-take}
use Rattle.journal_entries.specs.declared.act.Entry.{Entry}
use Rattle.journal_rules.specs.History.{history}
use Rattle.journal_rules.specs.Legal.{IsHanding}
use Rattle.project_histories.specs.Handing.{left_of, projects_of, shown_item}
use Rattle.project_histories.specs.Histories.{AreHistories, Histories, place_of}
use Rattle.project_histories.specs.declared.project.Project.{Project}
use Rattle.project_histories.proofs.Histories.{name_at, placed_known}
use Rattle.project_histories.proofs.Lists.{at_within}

-- what is left of a project, by its name
pub left_here : (p : List ℕ) (h : Histories) (j : List Entry) (place : ℕ) (x : Project) → AreHistories h j → slice_get h.projects place ≡ Some x → x.name ≡ p → x.queue.items ≡ left_of p j
left_here p h j place x were at named = (were.each place x at).left_is ∙ ap (λ q. left_of q j) named

-- as many as were taken may be handed out
pub may_hand : (p : List ℕ) (h : Histories) (j : List Entry) (place n count : ℕ) → AreHistories h j → place_of p h.projects ≡ Some place → count ≡ length (take n (left_of p j)) → IsHanding j p count
may_hand p h j place n count were at is = record {
  known = placed_known p h j place were at;
  within = (let t = length-take n (left_of p j) in let l = length-map (history p j) shown_item in omega (arith, is, t, l));
}

-- as many projects as the journal has
pub as_many_projects : (h : Histories) (j : List Entry) → AreHistories h j → length h.projects ≡ length (projects_of j)
as_many_projects h j were = sym (length-map h.projects (λ (x : Project). x.name)) ∙ ap length were.names_are

-- the project that stands at a place has the name that the journal has there
pub record StandsAt (place : ℕ) (h : Histories) (j : List Entry) : Type 0 where
  pub x : Project
  pub at : slice_get h.projects place ≡ Some x
  pub named : slice_get (projects_of j) place ≡ Some x.name

pub stands_at : (place : ℕ) (h : Histories) (j : List Entry) → AreHistories h j → place < length (projects_of j) → StandsAt place h j
stands_at place h j were within =
    let many = as_many_projects h j were in
    let x = at_within h.projects place (omega (arith, many, within)) in
    record { x = x.0; at = x.1; named = ap (λ l. slice_get l place) (sym were.names_are) ∙ name_at h.projects place x.0 x.1 }
