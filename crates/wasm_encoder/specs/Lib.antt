pub use Rattle.wasm_codec.specs.formats.Grammar
pub use Rattle.wasm_codec.specs.formats.Combinators
pub use Rattle.wasm_codec.specs.formats.Bodies
pub use Rattle.wasm_codec.specs.Places
pub use Rattle.wasm_codec.specs.Lawful
pub use Rattle.wasm_codec.specs.formats.Numbers
pub use Rattle.wasm_codec.specs.Leb128
pub use Rattle.wasm_codec.specs.Encoding
pub use Rattle.wasm_codec.specs.Outcomes
pub use Rattle.wasm_codec.specs.Decoding
pub use Rattle.wasm_lists.specs.Iterators
pub use Rattle.wasm_codec.specs.Lists
pub use Rattle.wasm_lists.specs.ItemReading
pub use Rattle.wasm_codec.specs.Rewriter
pub use Rattle.wasm_codec.specs.Streams
pub use Rattle.wasm_types.specs.formats.Types as TypeFormats
pub use Rattle.wasm_types.specs.Types
pub use Rattle.wasm_types.specs.TypeCounts
pub use Rattle.wasm_instructions.specs.formats.Operands as OperandFormats
pub use Rattle.wasm_instructions.specs.formats.Instructions as InstructionFormats
pub use Rattle.wasm_instructions.specs.formats.Opcodes
pub use Rattle.wasm_instructions.specs.formats.OpcodeNames
pub use Rattle.wasm_instructions.specs.Appending
pub use Rattle.wasm_code.specs.formats.CodeBodies as CodeFormats
pub use Rattle.wasm_code.specs.CodeCounts
pub use Rattle.wasm_code.specs.DecodedPrefixes
pub use Rattle.wasm_code.specs.formats.Modules as ModuleFormats
pub use Rattle.wasm_code.specs.formats.Sections
pub use Rattle.wasm_code.specs.Longer
pub use Rattle.wasm_code.specs.Modules
pub use Rattle.wasm_code.specs.Reasons
pub use Rattle.wasm_types.specs.PrefixFree as PrefixFreeTypes
pub use Rattle.wasm_instructions.specs.PrefixFree as PrefixFreeInstructions
pub use Rattle.wasm_code.specs.PrefixFree as PrefixFreeSections
pub use Rattle.wasm_codec.specs.Reading
pub use Rattle.wasm_codec.specs.Scanning
pub use Rattle.wasm_instructions.specs.Instructions
pub use Rattle.wasm_instructions.specs.MemArgs
pub use Rattle.wasm_instructions.specs.Names as InstructionNames
pub use Rattle.wasm_externals.specs.formats.Names as NameFormats
pub use Rattle.wasm_externals.specs.formats.Externals as ExternalFormats
pub use Rattle.wasm_externals.specs.ClosedExpressions
pub use Rattle.wasm_sections.specs.formats.Entries as EntryFormats
pub use Rattle.wasm_sections.specs.formats.EntryParts
pub use Rattle.wasm_sections.specs.formats.Elements as ElementFormats
pub use Rattle.wasm_sections.specs.formats.Segments as SegmentFormats
pub use Rattle.wasm_sections.specs.formats.Sections as SectionFormats
pub use Rattle.wasm_sections.specs.formats.ModuleSectionParts
pub use Rattle.wasm_sections.specs.formats.ModuleSections as ModuleSectionFormats
pub use Rattle.wasm_sections.specs.SectionBytes
pub use Rattle.wasm_sections.specs.WrittenSections
pub use Rattle.wasm_sections.specs.ClosedEntries
pub use Rattle.wasm_sections.specs.Prefixes
pub use Rattle.wasm_sections.specs.SectionContents
pub use Rattle.wasm_modules.specs.Longer as CheckedModules
pub use Rattle.wasm_modules.specs.ModuleOrder
pub use Rattle.wasm_modules.specs.IndexSpaces
pub use Rattle.wasm_modules.specs.MappedIndices
pub use Rattle.wasm_modules.specs.MappedSections
pub use Rattle.wasm_modules.specs.IndexOverflows
pub use Rattle.wasm_modules.specs.RefusalNumbers
pub use Rattle.wasm_sections.specs.SectionKinds
pub use Rattle.wasm_sections.specs.ListSections
pub use Rattle.wasm_sections.specs.ElementSections
pub use Rattle.wasm_sections.specs.NumberSections
pub use Rattle.wasm_custom_sections.specs.formats.NameParts
pub use Rattle.wasm_custom_sections.specs.formats.Names as NameSectionFormats
pub use Rattle.wasm_custom_sections.specs.formats.ProducerParts
pub use Rattle.wasm_custom_sections.specs.formats.Producers as ProducerFormats
pub use Rattle.wasm_custom_sections.specs.formats.TargetFeatures as FeatureFormats
pub use Rattle.wasm_custom_sections.specs.formats.BranchHints as HintFormats
pub use Rattle.wasm_custom_sections.specs.formats.SymbolParts
pub use Rattle.wasm_custom_sections.specs.formats.Symbols as SymbolFormats
pub use Rattle.wasm_custom_sections.specs.formats.Linking as LinkingFormats
pub use Rattle.wasm_custom_sections.specs.formats.CoreDumps as CoreDumpFormats
pub use Rattle.wasm_custom_sections.specs.formats.CoreStacks as CoreStackFormats
pub use Rattle.wasm_custom_sections.specs.CoreDumpSections
pub use Rattle.wasm_custom_sections.specs.LinkingSections
pub use Rattle.wasm_custom_sections.specs.Gaining
pub use Rattle.wasm_custom_sections.specs.NamedSections
pub use Rattle.wasm_custom_sections.specs.NameSections
pub use Rattle.wasm_custom_sections.specs.WrittenNames
pub use Rattle.wasm_custom_sections.specs.MappedNames
pub use Rattle.wasm_custom_sections.specs.KnownSections
pub use Rattle.wasm_custom_sections.specs.MovedOffsets
pub use Rattle.wasm_custom_sections.specs.MovedFunctions
pub use Rattle.wasm_custom_sections.specs.MovedHints
pub use Rattle.wasm_sink.specs.Sink
pub use Rattle.wasm_sink.specs.ListCalls
pub mod BuiltModules
pub mod EncodedLists
pub mod Errors
pub mod CodeSections
pub mod SectionIds
pub mod TypeSections
pub mod WrittenModules
