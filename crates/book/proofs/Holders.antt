-- One document of a book is written.
use Rattle.std.proofs.Common.{◌≡◌, ◌<◌, ◌∙◌, ℕ, List, [], ◌∷◌, ◌++◌, sym, ap, subst, slice_set}
use Rattle.std.specs.Prelude.{slice_get, Some, Result, Ok, Err, OnOk}
use Rattle.keyed_store.specs.Stores.{set_value_at}
use Rattle.keyed_store.specs.Stores.{names_of, value_at, values_of}
use Rattle.keyed_store.proofs.Writes.{names_of-set, values_of-set}
use Rattle.book.specs.declared.document.Document.{Document}
use Rattle.book.specs.Standing.{Held, IsKeptAs, IsQueued, Turns}
use Rattle.project_histories.proofs.Lists.{set_here}
use Rattle.book.proofs.Lists.{set_twice}

module _ (store : List (List ℕ × Document)) (held : Held) (doc : ℕ) (now : Document) (is : record { names = names_of store; items = values_of store } ≡ held) where
  pub names_kept : names_of (set_value_at store doc now) ≡ held.names
  names_kept = names_of-set store doc now ∙ ap (λ (h : Held). h.names) is

  pub turned : (R : Document → Document → Type 0) (was : Document) → value_at store doc ≡ Some was → R was now → Turns doc R held.items (values_of (set_value_at store doc now))
  turned R was at r = record {
    was = was;
    now = now;
    at = ap (λ (h : Held). slice_get h.items doc) (sym is) ∙ at;
    set_is = values_of-set store doc now ∙ ap (λ (h : Held). slice_set h.items doc now) is;
    is = r;
  }

-- there is room for one more that waits
pub room_by : {T E : Type 0} (r : Result T E) (store : List (List ℕ × Document)) (doc : ℕ) (x : Document) → OnOk r (0 < x.waiting.spare) → OnOk r ((d : Document) → slice_get (values_of (set_value_at store doc x)) doc ≡ Some d → 0 < d.waiting.spare)
room_by (Ok u) store doc x room = λ d at. subst (λ (y : Document). 0 < y.waiting.spare) (sym (set_here (values_of store) doc x d (ap (λ l. slice_get l doc) (sym (values_of-set store doc x)) ∙ at))) room
room_by (Err e) store doc x room = tt

-- room was made, and one update more waits
pub queued_kept : {xs ys zs : List Document} (doc ticket : ℕ) → Turns doc IsKeptAs xs ys → Turns doc (IsQueued ticket) ys zs → Turns doc (IsQueued ticket) xs zs
queued_kept {xs} {ys} {zs} doc ticket s t =
    let mid : t.was ≡ s.now = set_here xs doc s.now t.was (ap (λ l. slice_get l doc) (sym s.set_is) ∙ t.at) in
    record {
      was = s.was;
      now = t.now;
      at = s.at;
      set_is = t.set_is ∙ ap (λ l. slice_set l doc t.now) s.set_is ∙ set_twice xs doc s.now t.now;
      is = record {
        same = record {
          text_is = t.is.same.text_is ∙ ap (λ (x : Document). x.text) mid ∙ s.is.same.text_is;
          ranges_are = t.is.same.ranges_are ∙ ap (λ (x : Document). x.ranges) mid ∙ s.is.same.ranges_are;
          window_is = t.is.same.window_is ∙ ap (λ (x : Document). x.window) mid ∙ s.is.same.window_is;
        };
        kept_is = t.is.kept_is ∙ ap (λ (x : Document). x.kept) mid ∙ s.is.kept_is;
        lock_is = t.is.lock_is ∙ ap (λ (x : Document). x.lock) mid ∙ s.is.lock_is;
        waiting_is = t.is.waiting_is ∙ ap (λ (x : Document). x.waiting.items ++ ticket ∷ []) mid ∙ ap (λ l. l ++ ticket ∷ []) s.is.waiting_is;
      };
    }
