-- What a reader answers, beside what a value is by the grammar.
use Rattle.std.specs.Prelude.{◌≡◌, Option, Some, None, Result, IfOk, IfErr}
use Rattle.ot_json.specs.declared.fault.OpFault.{OpFault}
use Rattle.ot_json.specs.declared.fault.OpFault.TheVariants as fault
use Rattle.report_reader.specs.declared.refusal.Refusal.{Refusal}
use Rattle.report_reader.specs.declared.refusal.Refusal.TheVariants.{Outside, Memory}

-- the value's meaning is answered, or that it has none, unless memory is wanting
abbrev pub Reads : {T : Type 0} → Result T Refusal → Option T → Type 0
Reads result meaning = IfOk result (λ x. meaning ≡ Some x) × IfErr result (λ e. e ≡ Outside → meaning ≡ None)

abbrev pub refusal_of : OpFault → Refusal
refusal_of (fault.Bad f) = Outside
refusal_of fault.Memory = Memory
