use Rattle.std.proofs.Common.{ℕ, List, take, Result, Ok, Err, IfOk}
use Rattle.wasm_codec.proofs.DecodingLaws.{checks, normalises_to}
use Rattle.wasm_codec.specs.Decoding.{Checks, ChecksAll}
use Rattle.wasm_codec.specs.Outcomes.{as_decoded}
use Rattle.wasm_codec.specs.declared.reader.refusal.Refusal.{Refusal}
use Rattle.wasm_codec.specs.formats.Combinators.{minimal_only}
use Rattle.wasm_code.specs.Longer.{len_of, verdict_of}
use Rattle.wasm_code.specs.Modules.{IsModulePrefixOf}
use Rattle.wasm_code.specs.declared.longer.CheckedInPlace.{CheckedInPlace}
use Rattle.wasm_sections.proofs.ModuleSectionLaws.{whole_module_is_lawful, whole_module_is_minimal}
use Rattle.wasm_sections.specs.formats.ModuleSections.{module_section, whole_module, MinimalWholeModule}
use Rattle.wasm_modules.proofs.LongerLaws.{form_needs_none}
use Rattle.wasm_modules.proofs.modules.rewrite_and_check_in_place.Goals as goal

checks_checked : (bytes : List ℕ) (result : Result CheckedInPlace Refusal) → IfOk (as_decoded result) (λ checked. ChecksAll MinimalWholeModule (IsModulePrefixOf (minimal_only module_section)) bytes (verdict_of checked.longer)) → IfOk result (λ checked. Checks whole_module MinimalWholeModule (IsModulePrefixOf (minimal_only module_section)) bytes (verdict_of checked.longer))
checks_checked bytes (Ok checked) h = checks whole_module_is_lawful bytes whole_module_is_minimal (verdict_of checked.longer) h
checks_checked bytes (Err e) h = tt

pub returns-clause-normalises : goal.returns-clause-normalises
returns-clause-normalises c =
    let m = c.rewrite_and_check_module_of in
    rw c.without_memory.ensures (normalises_to whole_module_is_lawful c.args.bytes.now (λ len. take len m.new.bytes) (len_of m.result) m.ensures.rewrites (form_needs_none m.result m.ensures.memory))

pub returns-clause-checks : goal.returns-clause-checks
returns-clause-checks c = checks_checked c.args.bytes.now c.without_memory.result (rw c.without_memory.ensures c.rewrite_and_check_module_of.ensures.checks)
