-- The mail of a client, against the items that are ahead of it.
use Rattle.std.proofs.Common.{◌≡◌, ℕ, suc, ◌+◌, ◌<◌, ◌≤◌, List, [], ◌∷◌, ◌++◌, length, Bool, true, false, refl, ap, inl, inr, arith, eqb, drop}
use Rattle.std.specs.Prelude.{Some, if◌then◌else◌}
use Rattle.std.proofs.lemmas.Bool.{eqb-true}
use Rattle.journal_entries.specs.declared.update.Cause.{Cause}
use Rattle.journal_entries.specs.declared.update.Outcome.TheVariants.{Applied}
use Rattle.journal_entries.specs.declared.message.Msg.{Msg}
use Rattle.journal_entries.specs.declared.message.Msg.TheVariants.{Op, Ack, Error}
use Rattle.journal_entries.specs.declared.act.Entry.{Entry}
use Rattle.journal_rules.specs.Documents.{Item}
use Rattle.journal_rules.specs.Mail.{told, Outbox, outbox}
use Rattle.journal_rules.specs.Client.{Client}
pub use Rattle.journal_laws.specs.ClientLaw.{Delivers}

pub delivers_item : (source n : ℕ) (ahead : List Item) (ms : List Msg) (x : Item) → x.v ≡ n + length ahead → Delivers source n ahead ms → Delivers source n (ahead ++ x ∷ []) (ms ++ told source x.update (Applied x.v x.op))
delivers_item source n ahead [] x at f =
    let is : ahead ++ x ∷ [] ≡ x ∷ [] = ap (λ l. l ++ x ∷ []) f in
    let here : x.v ≡ n = let l : length ahead ≡ 0 = ap length f in omega (arith, at, l) in
    by (eqb x.update.source source) refl is here
  where
    by : (b : Bool) → eqb x.update.source source ≡ b → ahead ++ x ∷ [] ≡ x ∷ [] → x.v ≡ n → Delivers source n (ahead ++ x ∷ []) (if b then Ack x.v x.update.number ∷ [] else Op x.v x.op x.update.source ∷ [])
    by true same is here = inl (x, [], is, here, refl, eqb-true x.update.source source same, refl)
    by false same is here = (x, [], is, here, refl, refl, refl)
delivers_item source n ahead (Op v op from ∷ ms) x at f =
    let l : length ahead ≡ suc (length f.1) = ap length f.2 in
    (f.0, f.1 ++ x ∷ [], ap (λ l. l ++ x ∷ []) f.2, f.3, f.4, f.5, delivers_item source (n + 1) f.1 ms x (omega (arith, at, l)) f.6)
delivers_item source n ahead (Ack v number ∷ ms) x at (inl f) =
    let l : length ahead ≡ suc (length f.1) = ap length f.2 in
    inl (f.0, f.1 ++ x ∷ [], ap (λ l. l ++ x ∷ []) f.2, f.3, f.4, f.5, delivers_item source (n + 1) f.1 ms x (omega (arith, at, l)) f.6)
delivers_item source n ahead (Ack v number ∷ ms) x at (inr f) = inr (f.0, delivers_item source n ahead ms x at f.1)
delivers_item source n ahead (Error number cause ∷ ms) x at f = delivers_item source n ahead ms x at f

pub delivers_ack : (source n : ℕ) (ahead : List Item) (ms : List Msg) (w number : ℕ) → w < n + length ahead → Delivers source n ahead ms → Delivers source n ahead (ms ++ Ack w number ∷ [])
delivers_ack source n ahead [] w number lt f = let l : length ahead ≡ 0 = ap length f in inr (omega (arith, l, lt), f)
delivers_ack source n ahead (Op v op from ∷ ms) w number lt f =
    let l : length ahead ≡ suc (length f.1) = ap length f.2 in
    (f.0, f.1, f.2, f.3, f.4, f.5, delivers_ack source (n + 1) f.1 ms w number (omega (arith, lt, l)) f.6)
delivers_ack source n ahead (Ack v k ∷ ms) w number lt (inl f) =
    let l : length ahead ≡ suc (length f.1) = ap length f.2 in
    inl (f.0, f.1, f.2, f.3, f.4, f.5, delivers_ack source (n + 1) f.1 ms w number (omega (arith, lt, l)) f.6)
delivers_ack source n ahead (Ack v k ∷ ms) w number lt (inr f) = inr (f.0, delivers_ack source n ahead ms w number lt f.1)
delivers_ack source n ahead (Error k cause ∷ ms) w number lt f = delivers_ack source n ahead ms w number lt f

pub delivers_error : (source n : ℕ) (ahead : List Item) (ms : List Msg) (number : ℕ) (cause : Cause) → Delivers source n ahead ms → Delivers source n ahead (ms ++ Error number cause ∷ [])
delivers_error source n ahead [] number cause f = f
delivers_error source n ahead (Op v op from ∷ ms) number cause f = (f.0, f.1, f.2, f.3, f.4, f.5, delivers_error source (n + 1) f.1 ms number cause f.6)
delivers_error source n ahead (Ack v k ∷ ms) number cause (inl f) = inl (f.0, f.1, f.2, f.3, f.4, f.5, delivers_error source (n + 1) f.1 ms number cause f.6)
delivers_error source n ahead (Ack v k ∷ ms) number cause (inr f) = inr (f.0, delivers_error source n ahead ms number cause f.1)
delivers_error source n ahead (Error k c ∷ ms) number cause f = delivers_error source n ahead ms number cause f

pub record IsPosted (c : ℕ) (j : List Entry) (s : Client) (ahead : List Item) : Type 0 where
  pub place : Outbox
  pub place_is : outbox c j ≡ Some place
  pub doc_is : place.doc ≡ s.doc
  pub source_is : place.source ≡ s.source
  pub within : place.got ≤ length place.posted
  pub delivers : Delivers s.source s.version ahead (drop place.got place.posted)
