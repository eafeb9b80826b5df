-- What an element of an operation's array is read as.
use Rattle.std.specs.Prelude.{ℕ, List, Option, Some, None, if◌then◌else◌}
use Rattle.ot_units.specs.Text.{exact_units, sanitized_units}
use Rattle.ot_op.specs.declared.comp.Comp.{Comp}
use Rattle.ot_op.specs.declared.comp.Comp.TheVariants.{Ins, Del, Com}
use Rattle.ot_op.specs.Operation.{is_void}
use Rattle.ot_json.specs.declared.reading.Grammar.{Grammar}
use Rattle.ot_json.specs.declared.reading.Grammar.TheVariants.{Sent, Stored}
use Rattle.ot_json.specs.declared.reading.Reading.{Reading}
use Rattle.ot_json.specs.declared.reading.Reading.TheVariants.{Kept, Dropped, Supplementary, OutOfForm}
use Rattle.ot_json.specs.Form.{Written, insert, delete, comment}

-- a component, or what is read where it inserts or deletes the empty text
abbrev pub unless_void : Reading → Comp → Reading
unless_void void c = if is_void c then void else Kept c

-- what is read of the units of a text, or where it has a supplementary character
abbrev pub exactly : (List ℕ → Reading) → Reading → Option (List ℕ) → Reading
exactly read other None = other
exactly read other (Some us) = read us

-- of a client's operation: inserted text is made free of surrogates
abbrev pub sent_reading : Written → Reading
sent_reading (insert s p) = unless_void Dropped (Ins p (sanitized_units s))
sent_reading (delete s p) = exactly (λ us. unless_void Dropped (Del p us)) Supplementary (exact_units s)
sent_reading (comment s p t) = exactly (λ us. Kept (Com p us t)) Supplementary (exact_units s)

-- of an operation that was written: nothing is dropped and no text changed
abbrev pub stored_reading : Written → Reading
stored_reading (insert s p) = exactly (λ us. unless_void OutOfForm (Ins p us)) OutOfForm (exact_units s)
stored_reading (delete s p) = exactly (λ us. unless_void OutOfForm (Del p us)) Supplementary (exact_units s)
stored_reading (comment s p t) = exactly (λ us. Kept (Com p us t)) Supplementary (exact_units s)

abbrev pub reading_of : Grammar → Option Written → Reading
reading_of grammar None = OutOfForm
reading_of Sent (Some w) = sent_reading w
reading_of Stored (Some w) = stored_reading w
