-- Custom sections whose contents are decoded if their name is known.
use Rattle.std.specs.Prelude.{◌≡◌, ℕ, List, codes}
use Rattle.wasm_codec.specs.formats.Combinators.{Format, items}
use Rattle.wasm_sections.specs.formats.EntryParts.{CustomParts}
use Rattle.wasm_custom_sections.specs.declared.known.KnownCustomSection.{KnownCustomSection}
use Rattle.wasm_custom_sections.specs.declared.known.KnownCustomSection.TheVariants as known
use Rattle.wasm_custom_sections.specs.formats.BranchHints.{function_hints}
use Rattle.wasm_custom_sections.specs.formats.CoreDumps.{all_module_names, core_instance, core_name, process_name}
use Rattle.wasm_custom_sections.specs.formats.CoreStacks.{core_stack, stack_parts}
use Rattle.wasm_custom_sections.specs.formats.Linking.{all_linking_parts, linking_data, versioned}
use Rattle.wasm_custom_sections.specs.formats.NameParts.{all_subsection_parts}
use Rattle.wasm_custom_sections.specs.formats.Names.{name_data}
use Rattle.wasm_custom_sections.specs.formats.ProducerParts.{all_field_parts}
use Rattle.wasm_custom_sections.specs.formats.Producers.{producers_field}
use Rattle.wasm_custom_sections.specs.formats.TargetFeatures.{all_feature_parts, target_feature}

-- The section has this name, and its contents encode this value.
abbrev pub Holds : {V : Type 0} → List ℕ → Format V → CustomParts → V → Type 0
Holds name F section value = (section.name ≡ name) × F.Encodes section.data_bytes value

-- The section has another name, or its contents encode no value.
abbrev pub HoldsNone : {V : Type 0} → List ℕ → Format V → CustomParts → Type 0
HoldsNone {V} name F section = section.name ≡ name → (value : V) → F.Encodes section.data_bytes value → ⊥

-- The contents of this section are decoded so.
abbrev pub IsKnown : CustomParts → KnownCustomSection → Type 0
IsKnown section (known.Names subsections) = Holds (codes "name") name_data section (all_subsection_parts subsections.items)
IsKnown section (known.Producers fields) = Holds (codes "producers") (items producers_field) section (all_field_parts fields.items)
IsKnown section (known.TargetFeatures features) = Holds (codes "target_features") (items target_feature) section (all_feature_parts features.items)
IsKnown section (known.BranchHints functions) = Holds (codes "metadata.code.branch_hint") (items function_hints) section functions.items
IsKnown section (known.Linking subsections) = Holds (codes "linking") linking_data section (versioned (all_linking_parts subsections.items))
IsKnown section (known.CoreDump process) = Holds (codes "core") core_name section (process_name process)
IsKnown section (known.CoreDumpModules modules) = Holds (codes "coremodules") (items core_name) section (all_module_names modules.items)
IsKnown section (known.CoreDumpInstances instances) = Holds (codes "coreinstances") (items core_instance) section instances.items
IsKnown section (known.CoreDumpStack thread) = Holds (codes "corestack") core_stack section (stack_parts thread)
IsKnown section (known.Other bytes) =
    (bytes.now ≡ section.data_bytes)
    × HoldsNone (codes "name") name_data section
    × HoldsNone (codes "producers") (items producers_field) section
    × HoldsNone (codes "target_features") (items target_feature) section
    × HoldsNone (codes "metadata.code.branch_hint") (items function_hints) section
    × HoldsNone (codes "linking") linking_data section
    × HoldsNone (codes "core") core_name section
    × HoldsNone (codes "coremodules") (items core_name) section
    × HoldsNone (codes "coreinstances") (items core_instance) section
    × HoldsNone (codes "corestack") core_stack section
