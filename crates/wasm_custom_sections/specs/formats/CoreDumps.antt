-- The contents of core dump sections, but for stacks (tool conventions, Core Dumps).
use Rattle.std.specs.Prelude.{ℕ, List, map, Some}
use Rattle.wasm_codec.specs.formats.Combinators.{Format, ◌▷◌, ◌⊗◌, made, items, u32}
use Rattle.wasm_externals.specs.formats.Names.{name}
use Rattle.wasm_custom_sections.specs.declared.core_dumps.CoreDumpInstance.{CoreDumpInstance}
use Rattle.wasm_custom_sections.specs.declared.core_dumps.CoreDumpModule.{CoreDumpModule}
use Rattle.wasm_custom_sections.specs.declared.core_dumps.CoreDumpSection.{CoreDumpSection}

-- ---- names

-- The name of the process.
abbrev pub process_name : CoreDumpSection → List ℕ
process_name section = section.name.now

-- The name of a module.
abbrev pub module_name : CoreDumpModule → List ℕ
module_name m = m.name.now

-- The names of modules.
abbrev pub all_module_names : List CoreDumpModule → List (List ℕ)
all_module_names = map module_name

-- The name of a process, which is all of the contents of its section, or of a module, of which they are a list.
-- process-info ::= 0x0 process-name:name
-- coremodule ::= 0x0 module-name:name
unfoldable pub core_name : Format (List ℕ)
core_name = 0x00 ▷ name

-- ---- instances

-- The instance with these parts.
abbrev pub instance_of : ℕ × (List ℕ × List ℕ) → CoreDumpInstance
instance_of p = record { module_index = p.0; memories = p.1.0; globals = p.1.1 }

-- An instance. The contents of the section are a list of them.
-- coreinstance ::= 0x0 moduleidx:u32 memories:list(u32) globals:list(u32)
unfoldable pub core_instance : Format CoreDumpInstance
core_instance = made instance_of (λ i. Some (i.module_index, (i.memories, i.globals))) (0x00 ▷ (u32 ⊗ (items u32 ⊗ items u32)))
