use Rattle.std.proofs.Common.{◌≡◌, ℕ, ◌+◌, ◌<◌, ◌≤◌, ◌∙◌, ap, sym, List, length, take, drop, arith}
use Rattle.std.proofs.lemmas.List.{length-take, length-drop}
use Rattle.ot_text.specs.Lists.{joined}
use Rattle.ot_text.proofs.Joining.{cut_step, cut_end}
use Rattle.ot_text.proofs.Splices.{big_step, chunks_end, last_end, first_big}
use Rattle.ot_text.proofs.hole.cut_into.Goals as goal

taken : (n : ℕ) (xs c : List ℕ) → c ≡ take n xs → n ≤ length xs → length c ≡ n
taken n xs c e le = let l = length-take n xs in let h = ap length e in omega (arith, l, h, le)

dropped : (n last : ℕ) (xs c : List ℕ) → c ≡ drop n xs → n + last ≤ length xs → last ≤ length c
dropped n last xs c e le = let l = length-drop n xs in let h = ap length e in omega (arith, l, h, le)

pub loop-rest-preserved : goal.loop-rest-preserved
loop-rest-preserved c =
    let is : c.in_ok-new.field-0 ≡ take c.piece_length-len.result c.loop-rest.rest.now = c.in_ok-new.ensures ∙ c.in_ok-from_slice.ensures.items ∙ c.split_at.ensures.front in
    let n = taken _ _ _ is (omega (arith, c.piece_length-len.ensures.stay)) in
    record {
      cut = rw c.split_at.ensures.back (cut_step _ _ _ _ _ _ c.in_ok-push.ensures.items is c.loop-rest.invariant.cut);
      big = big_step _ _ _ c.in_ok-push.ensures.items (omega (arith, n, c.piece_length-len.ensures.least)) (omega (arith, n, c.piece_length-len.ensures.most)) c.loop-rest.invariant.big;
      enough = dropped _ _ _ _ c.split_at.ensures.back c.piece_length-len.ensures.stay;
    }

pub returns-clause-joined : goal.returns-clause-joined
returns-clause-joined c = cut_end _ _ _ _ _ c.in_ok-push-2.ensures.items (c.in_ok-new-2.ensures ∙ c.in_ok-from_slice-2.ensures.items) c.loop-rest.invariant.cut

pub returns-clause-chunks : goal.returns-clause-chunks
returns-clause-chunks c =
    let l = ap length (c.in_ok-new-2.ensures ∙ c.in_ok-from_slice-2.ensures.items) in
    chunks_end _ _ _ c.in_ok-push-2.ensures.items (omega (arith, l, c.loop-rest.invariant.enough, c.requires.least)) (omega (arith, l, c.loop-rest-test.false)) c.loop-rest.invariant.big

pub returns-clause-last : goal.returns-clause-last
returns-clause-last c =
    let l = ap length (c.in_ok-new-2.ensures ∙ c.in_ok-from_slice-2.ensures.items) in
    let e = last_end _ _ _ c.in_ok-push-2.ensures.items in
    omega (arith, l, e, c.loop-rest.invariant.enough)

pub returns-clause-first : goal.returns-clause-first
returns-clause-first c =
    let l = ap length (c.in_ok-new-2.ensures ∙ c.in_ok-from_slice-2.ensures.items) in
    rw c.in_ok-push-2.ensures.items (first_big _ _ c.args.last c.loop-rest.invariant.big c.requires.most (omega (arith, l, c.loop-rest.invariant.enough)))
