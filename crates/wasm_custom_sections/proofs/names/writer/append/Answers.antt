use Rattle.std.proofs.Common.{refl}
use Rattle.wasm_custom_sections.specs.declared.names.NameSubsection.TheVariants as read
use Rattle.wasm_custom_sections.proofs.SubsectionLaws.{data_segments_kind, elements_kind, fields_kind, functions_kind, globals_kind, labels_kind, locals_kind, memories_kind, tables_kind, tags_kind, types_kind}
use Rattle.wasm_custom_sections.proofs.WrittenNameLaws.{items_appended, module_appended, names_appended, unknown_appended}
use Rattle.wasm_custom_sections.proofs.names.writer.append.Goals as goal

pub returns-in-Module : goal.returns-in-Module
returns-in-Module g c = module_appended c.args.subsection.now c.in-Module.name c.args.sink.now.items c.append_subsection.new.bytes.items c.append_subsection.result c.in-Module.is c.append_subsection.ensures.ok c.append_subsection.ensures.can c.append_subsection.ensures.counted c.append_subsection.ensures.written c.append_subsection.ensures.refused c.append_subsection.ensures.kept

pub returns-in-Functions : goal.returns-in-Functions
returns-in-Functions g c = names_appended functions_kind read.Functions (λ ys. refl) (λ ys. refl) (λ ys can. can) (λ ys can. can) c.args.subsection.now c.in-Functions.names c.in-Functions.is c.append_names.ensures

pub returns-in-Locals : goal.returns-in-Locals
returns-in-Locals g c = items_appended locals_kind read.Locals (λ ys. refl) (λ ys. refl) (λ ys can. can) (λ ys can. can) c.args.subsection.now c.in-Locals.items c.in-Locals.is c.append_items.ensures

pub returns-in-Labels : goal.returns-in-Labels
returns-in-Labels g c = items_appended labels_kind read.Labels (λ ys. refl) (λ ys. refl) (λ ys can. can) (λ ys can. can) c.args.subsection.now c.in-Labels.items c.in-Labels.is c.append_items-in-Labels.ensures

pub returns-in-Types : goal.returns-in-Types
returns-in-Types g c = names_appended types_kind read.Types (λ ys. refl) (λ ys. refl) (λ ys can. can) (λ ys can. can) c.args.subsection.now c.in-Types.names c.in-Types.is c.append_names-in-Types.ensures

pub returns-in-Tables : goal.returns-in-Tables
returns-in-Tables g c = names_appended tables_kind read.Tables (λ ys. refl) (λ ys. refl) (λ ys can. can) (λ ys can. can) c.args.subsection.now c.in-Tables.names c.in-Tables.is c.append_names-in-Tables.ensures

pub returns-in-Memories : goal.returns-in-Memories
returns-in-Memories g c = names_appended memories_kind read.Memories (λ ys. refl) (λ ys. refl) (λ ys can. can) (λ ys can. can) c.args.subsection.now c.in-Memories.names c.in-Memories.is c.append_names-in-Memories.ensures

pub returns-in-Globals : goal.returns-in-Globals
returns-in-Globals g c = names_appended globals_kind read.Globals (λ ys. refl) (λ ys. refl) (λ ys can. can) (λ ys can. can) c.args.subsection.now c.in-Globals.names c.in-Globals.is c.append_names-in-Globals.ensures

pub returns-in-Elements : goal.returns-in-Elements
returns-in-Elements g c = names_appended elements_kind read.Elements (λ ys. refl) (λ ys. refl) (λ ys can. can) (λ ys can. can) c.args.subsection.now c.in-Elements.names c.in-Elements.is c.append_names-in-Elements.ensures

pub returns-in-Data : goal.returns-in-Data
returns-in-Data g c = names_appended data_segments_kind read.Data (λ ys. refl) (λ ys. refl) (λ ys can. can) (λ ys can. can) c.args.subsection.now c.in-Data.names c.in-Data.is c.append_names-in-Data.ensures

pub returns-in-Fields : goal.returns-in-Fields
returns-in-Fields g c = items_appended fields_kind read.Fields (λ ys. refl) (λ ys. refl) (λ ys can. can) (λ ys can. can) c.args.subsection.now c.in-Fields.items c.in-Fields.is c.append_items-in-Fields.ensures

pub returns-in-Tags : goal.returns-in-Tags
returns-in-Tags g c = names_appended tags_kind read.Tags (λ ys. refl) (λ ys. refl) (λ ys can. can) (λ ys can. can) c.args.subsection.now c.in-Tags.names c.in-Tags.is c.append_names-in-Tags.ensures

pub returns-in-Unknown : goal.returns-in-Unknown
returns-in-Unknown g c = unknown_appended c.args.subsection.now c.in-Unknown.id c.in-Unknown.bytes c.in-Unknown.is c.append_unknown.ensures.range.0 c.append_unknown.ensures.range.1 c.append_unknown.ensures.appends
