use Rattle.std.proofs.Common.{◌≡◌, ◌++◌, ◌∷◌, [], ℕ, List, refl, subst}
use Rattle.std.specs.Prelude.{OnOk}
use Rattle.wasm_encoder.specs.Encoding.{byte_list_bytes}
use Rattle.wasm_encoder.specs.Leb128.{unsigned_leb128, digits_of}
use Rattle.wasm_encoder.specs.EncodedLists.{EncodedItems, body_bytes}
use Rattle.callers.proofs.instructions.encoded.Goals as goal

section_bytes : (section : EncodedItems) → section.count ≡ 1 → section.bytes ≡ 7 ∷ 0 ∷ 32 ∷ 0 ∷ 32 ∷ 1 ∷ 106 ∷ 11 ∷ []
    → byte_list_bytes (body_bytes section) ≡ 9 ∷ 1 ∷ 7 ∷ 0 ∷ 32 ∷ 0 ∷ 32 ∷ 1 ∷ 106 ∷ 11 ∷ []
unfolding unsigned_leb128 digits_of
section_bytes section count bytes = rw (count, bytes) refl

pub returns : goal.returns
returns c = subst (λ (t : List ℕ). OnOk c.encode.result (c.encode.new.sink.items ≡ c.args.sink.now.items ++ t)) (section_bytes c.args.code.now c.requires.count c.requires.bytes) c.encode.ensures.encodes.ok
