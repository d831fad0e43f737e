use Rattle.std.proofs.Common.{List, ℕ, Result, Ok, Err, sym, subst}
use Rattle.wasm_codec.specs.declared.reader.ReadError.{ReadError}
use Rattle.wasm_codec.specs.declared.reader.ReadError.TheVariants as errors
use Rattle.wasm_codec.specs.formats.Grammar.{Grammar}
use Rattle.wasm_codec.specs.Outcomes.{IsOrMemory, IfRefused, EncodesSome}
use Rattle.wasm_code.specs.formats.Modules.{typed_module}
use Rattle.wasmnorm.specs.Modes.{NormalForm}
use Rattle.wasmnorm.specs.declared.modes.Mode.TheVariants.{Module}
use Rattle.wasmnorm.proofs.modes.normalise.Goals as goal

-- where the minimal encoding of each value that is encoded is given, only what encodes nothing is refused
refused_none : {X V : Type 0} (G : Grammar V) (encoding_of : V → List ℕ) (view : X → List ℕ) (bytes : List ℕ) (result : Result X ReadError)
    → ((v : V) → G bytes v → IsOrMemory view (encoding_of v) result) → IfRefused result (λ _. EncodesSome G bytes → ⊥)
refused_none G encoding_of view bytes (Ok x) given = tt
refused_none G encoding_of view bytes (Err errors.Memory) given = tt
refused_none G encoding_of view bytes (Err (errors.Refused at)) given = λ some. given some.0 some.1

pub returns-in-Module-clause-complete : goal.returns-in-Module-clause-complete
returns-in-Module-clause-complete c encoding normal =
    let n : NormalForm Module c.args.input.items encoding = rw c.in-Module.is at normal in
    subst (λ (t : List ℕ). IsOrMemory (λ given. given.items) t c.rewrite_module.result) (sym n.is_minimal) (c.rewrite_module.ensures.normalises.complete n.value n.encoded)

pub returns-in-Module-clause-unencoded : goal.returns-in-Module-clause-unencoded
returns-in-Module-clause-unencoded c =
    rw c.in-Module.is (refused_none typed_module.Encodes typed_module.bytes (λ encoding. encoding.items) c.args.input.items c.rewrite_module.result c.rewrite_module.ensures.normalises.complete)

pub returns-in-Types-clause-prefix : goal.returns-in-Types-clause-prefix
returns-in-Types-clause-prefix c = rw c.in-Types.is c.rewrite_type_section.ensures.normalises.prefix

pub returns-in-Module-clause-prefix : goal.returns-in-Module-clause-prefix
returns-in-Module-clause-prefix c = rw c.in-Module.is c.rewrite_module.ensures.normalises.prefix
