use Rattle.std.proofs.Common.{arith, ◌≤◌, ◌<◌, ◌+◌, ◌-◌, ◌≡◌, ◌∙◌, ◌∷◌, [], ap, sym, refl, Bool, true, List, ℕ, drop, length}
use Rattle.std.specs.Prelude.{if◌then◌else◌}
use Rattle.ot_parts.specs.Lines.{lines_of}
use Rattle.ot_text.specs.Lists.{joined}
use Rattle.ot_text.proofs.Lining.{feed, line_within, lines_more, lines_last}
use Rattle.ot_text.proofs.lines.TextLinesIterator.next.Goals as goal

pub part_in-line-requires-clause-inside : goal.part_in-line-requires-clause-inside
part_in-line-requires-clause-inside c =
    let len = line_within (joined (joined c.self.inside.blocks.now)) c.self.inside.at (c.self.inside.total - c.self.inside.at) c.line_length-len.result (c.line_length-len.ensures ∙ ap feed c.part_in.ensures.part) in
    omega (arith, len, c.self.invariant.inside)

given : (b : Bool) (lines : List (List ℕ)) → b ≡ true → (if b then lines else []) ≡ lines
given b lines e = rw e refl

fewer : (lines left : List (List ℕ)) (line : List ℕ) → lines ≡ line ∷ left → length left < length lines
fewer lines left line e = let l = ap length e in omega (arith, l)

pub returns-then-len-rest-clause-steps : goal.returns-then-len-rest-clause-steps
returns-then-len-rest-clause-steps c =
    let text = joined (joined c.self.inside.blocks.now) in
    let at = c.self.inside.at in
    let now : c.args.self.now ≡ lines_of (drop at text) = sym c.self.view_is ∙ given c.self.inside.more (lines_of (drop at text)) c.if-not-self.false in
    let more = lines_more text (joined c.part_in-line.result) at (c.self.inside.total - at) c.line_length-len.result (omega (arith, c.self.invariant.inside, c.self.invariant.kept.counted)) (c.line_length-len.ensures ∙ ap feed c.part_in.ensures.part) c.if-len-rest.true c.part_in-line.ensures.part in
    let next = given c.self.inside.more (lines_of (drop (at + (c.line_length-len.result + 1)) text)) c.if-not-self.false in
    (now ∙ more ∙ ap (λ (x : List (List ℕ)). joined c.part_in-line.result ∷ x) (sym next), c.part_in-line.ensures.sizes)

pub returns-then-len-rest-clause-goes : goal.returns-then-len-rest-clause-goes
returns-then-len-rest-clause-goes c =
    let steps = returns-then-len-rest-clause-steps c in
    let less = fewer _ _ _ steps.0 in
    record { on = λ _. (tt, tt, less); keeps = tt; rests = λ _. tt }

pub returns-clause-steps : goal.returns-clause-steps
returns-clause-steps c =
    let text = joined (joined c.self.inside.blocks.now) in
    let at = c.self.inside.at in
    let now : c.args.self.now ≡ lines_of (drop at text) = sym c.self.view_is ∙ given c.self.inside.more (lines_of (drop at text)) c.if-not-self.false in
    let last = lines_last text (joined c.part_in-line.result) at (c.self.inside.total - at) c.line_length-len.result (omega (arith, c.self.invariant.inside, c.self.invariant.kept.counted)) (c.line_length-len.ensures ∙ ap feed c.part_in.ensures.part) c.if-len-rest.false c.part_in-line.ensures.part in
    (now ∙ last, c.part_in-line.ensures.sizes)

pub returns-clause-goes : goal.returns-clause-goes
returns-clause-goes c =
    let steps = returns-clause-steps c in
    let less = fewer _ _ _ steps.0 in
    record { on = λ _. (tt, tt, less); keeps = tt; rests = λ _. tt }
