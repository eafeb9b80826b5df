use Rattle.std.proofs.Common.{◌≡◌, ℕ, List, [], ◌∷◌, ◌++◌, Bool, ◌&&◌, sym, ap, ◌∙◌, append_assoc}
use Rattle.std.specs.Prelude.{Some}
use Rattle.std.specs.List.{list_all}
use Rattle.std.specs.Option.{option_to_list}
use Rattle.std.proofs.lemmas.List.Elements.{All-pop}
use Rattle.journal_entries.specs.declared.act.Entry.{Entry}
use Rattle.board.specs.declared.view.View.{View}
use Rattle.crew.specs.Places.{IsSeated, has_closed, sight_of, sights_of}
use Rattle.crew.proofs.Sights.{closed-push, sights-push}
use Rattle.crew.proofs.seating.take_in.Goals as goal

pub into_seat-closed-requires : goal.into_seat-closed-requires
into_seat-closed-requires g c =
    let items = c.pop.ensures.items ∙ ap (λ o. c.pop.new.self.items ++ option_to_list o) c.in-Some.is in
    (All-pop (IsSeated c.args.board.now) c.loop-place.places.items c.pop.new.self.items (Some c.in-Some.place) items c.loop-place.invariant.seated).1

pub loop-place-preserved : goal.loop-place-preserved
loop-place-preserved g c =
    let was = c.loop-place.invariant in
    let rest = c.pop.new.self.items in
    let place = c.in-Some.place in
    let items : c.loop-place.places.items ≡ rest ++ place ∷ [] = c.pop.ensures.items ∙ ap (λ o. rest ++ option_to_list o) c.in-Some.is in
    let other = c.into_seat-closed.result.1 in
    let sight = c.into_seat-closed.ensures.sight in
    let view = c.join.ensures.1 in
    let before = c.loop-place.seat.view.joined in
    let same : (other.view.number, other.view.seen) ≡ sight_of place = λ i. (sight.0 i, sight.1 i) in
    let joined : c.join.new.seat.view.joined ≡ before ++ sight_of place ∷ [] = ap (λ (v : View). v.joined) view ∙ ap (λ (x : ℕ × List Entry). before ++ x ∷ []) same in
    record {
      first = ((c.join.ensures.0 ∙ was.first.0.0, ap (λ (v : View). v.holds) view ∙ was.first.0.1, ap (λ (v : View). v.number) view ∙ was.first.0.2), (ap (λ (v : View). v.made) view ∙ was.first.1.0, ap (λ (v : View). v.drivers) view ∙ was.first.1.1, ap (λ (v : View). v.start) view ∙ was.first.1.2));
      count = ap (λ (v : View). v.count) view ∙ was.count;
      seated = (All-pop (IsSeated c.args.board.now) c.loop-place.places.items rest (Some place) items was.seated).0;
      joined = ap (λ (xs : List (ℕ × List Entry)). xs ++ sights_of rest) joined ∙ append_assoc before (sight_of place ∷ []) (sights_of rest)
          ∙ ap (λ (xs : List (ℕ × List Entry)). before ++ xs) (sym (ap sights_of items ∙ sights-push rest place)) ∙ was.joined;
      closed = ap (λ (b : Bool). list_all has_closed rest && b) (c.both-all.ensures ∙ ap (λ (b : Bool). b && c.loop-place.all) c.into_seat-closed.ensures.closed)
          ∙ sym (ap (λ xs. list_all has_closed xs && c.loop-place.all) items ∙ closed-push rest place c.loop-place.all) ∙ was.closed;
    }
