use Rattle.std.proofs.Common.{◌≡◌, ◌∙◌, ◌<◌, ℕ, List, false, length, refl, sym, ap, subst, arith}
use Rattle.std.specs.Prelude.{slice_get, Some}
use Rattle.std.proofs.lemmas.Option.{slice_get_read}
use Rattle.share_client.specs.Clients.{Numbered}
use Rattle.ending_rules.specs.Rounds.{any_below, is_unfinished}
use Rattle.run_end.proofs.Rounding.{none_more, some_at}
use Rattle.run_end.proofs.closing.any_unfinished.Goals as goal

pub returns-then-is_unfinished : goal.returns-then-is_unfinished
returns-then-is_unfinished g c =
    let j = c.args.book.now.journal in let at = c.loop-client.client-index in let xs = c.deref-client-items.result.now in let items = c.args.clients.now.items in
    let there = subst (λ (l : List Numbered). slice_get l at ≡ Some c.client-item.result) c.deref-client-items.ensures.value (slice_get_read xs (length xs) at c.client-item.result refl c.loop-client-test.true c.client-item.is) in
    let lt = subst (λ (l : List Numbered). at < length l) c.deref-client-items.ensures.value c.loop-client-test.true in
    sym (some_at (λ n. is_unfinished n j) at (length items) lt (ap (λ n. is_unfinished n j) (sym (c.requires.each at c.client-item.result there).0) ∙ sym c.is_unfinished.ensures ∙ c.if-is_unfinished.true))

pub loop-client-preserved : goal.loop-client-preserved
loop-client-preserved g c =
    let j = c.args.book.now.journal in let at = c.loop-client.client-index in let xs = c.deref-client-items.result.now in
    let there = subst (λ (l : List Numbered). slice_get l at ≡ Some c.client-item.result) c.deref-client-items.ensures.value (slice_get_read xs (length xs) at c.client-item.result refl c.loop-client-test.true c.client-item.is) in
    none_more (λ n. is_unfinished n j) at c.loop-client.invariant (ap (λ n. is_unfinished n j) (sym (c.requires.each at c.client-item.result there).0) ∙ sym c.is_unfinished.ensures ∙ c.if-is_unfinished.false)

pub returns : goal.returns
returns g c =
    let j = c.args.book.now.journal in
    let high = c.loop-client-test.false in let low = c.loop-client.auto.client-index-end in let len = ap length c.deref-client-items.ensures.value in
    let same : c.loop-client.client-index ≡ length c.args.clients.now.items = omega (arith, high, low, len) in
    sym (subst (λ (n : ℕ). any_below (λ m. is_unfinished m j) n ≡ false) same c.loop-client.invariant)
