-- The contents of name sections (WebAssembly Core 3.0, Appendix, Name Section, and the extended name section).
use Rattle.std.specs.Prelude.{ℕ, List, Option, Some, Bool, nat_lt}
use Rattle.wasm_codec.specs.formats.Bodies.{sized, byte_list, to_end}
use Rattle.wasm_codec.specs.formats.Combinators.{Format, ◌⊗◌, made, any_of, or_else, tagged, byte_where, items, u32}
use Rattle.wasm_externals.specs.formats.Names.{name}
use Rattle.wasm_custom_sections.specs.formats.NameParts.{NamingParts, IndirectParts, SubsectionParts, subsection_id, module_name, functions, locals, labels, types, tables, memories, globals, elements, data_segments, fields, tags, module_part, functions_part, locals_part, labels_part, types_part, tables_part, memories_part, globals_part, elements_part, data_segments_part, fields_part, tags_part, unknown_of, unknown_part}

-- The name with these parts.
abbrev pub naming_of : ℕ × List ℕ → NamingParts
naming_of p = record { index = p.0; name = p.1 }

-- A name for an index. A name map is a list of them.
-- namemap ::= list(nameassoc), nameassoc ::= idx name
unfoldable pub naming : Format NamingParts
naming = made naming_of (λ n. Some (n.index, n.name)) (u32 ⊗ name)

-- The names inside the item of an index.
abbrev pub indirect_of : ℕ × List NamingParts → IndirectParts
indirect_of p = record { index = p.0; names = p.1 }

-- Names inside the item of an index. An indirect name map is a list of them.
-- indirectnamemap ::= list(indirectnameassoc), indirectnameassoc ::= idx namemap
unfoldable pub indirect_naming : Format IndirectParts
indirect_naming = made indirect_of (λ n. Some (n.index, n.names)) (u32 ⊗ items naming)

-- A subsection's content: its size, and a name or a map.
abbrev pub part_of : {V : Type 0} → (V → SubsectionParts) → (SubsectionParts → Option V) → Format V → Format SubsectionParts
part_of make part F = made make part (sized F)

-- An id without a meaning.
abbrev pub is_unknown : ℕ → Bool
is_unknown id = nat_lt 11 id

-- A subsection: its id, its size and its content.
-- namesubsection_N(B) ::= N:byte size:u32 B (if size = ||B||), for each N and B of the standard and of the proposal:
--   modulenamesubsec ::= namesubsection_0(name)
--   funcnamesubsec ::= namesubsection_1(namemap)
--   localnamesubsec ::= namesubsection_2(indirectnamemap)
--   labelnamesubsec ::= namesubsection_3(indirectnamemap)
--   typenamesubsec ::= namesubsection_4(namemap)
--   tablenamesubsec ::= namesubsection_5(namemap)
--   memorynamesubsec ::= namesubsection_6(namemap)
--   globalnamesubsec ::= namesubsection_7(namemap)
--   elementnamesubsec ::= namesubsection_8(namemap)
--   datanamesubsec ::= namesubsection_9(namemap)
--   fieldnamesubsec ::= namesubsection_10(indirectnamemap)
--   tagnamesubsec ::= namesubsection_11(namemap)
-- Here a subsection of any other id has any bytes.
unfoldable pub name_subsection : Format SubsectionParts
name_subsection = any_of
    (tagged subsection_id 0 (part_of module_name module_part name)
    (tagged subsection_id 1 (part_of functions functions_part (items naming))
    (tagged subsection_id 2 (part_of locals locals_part (items indirect_naming))
    (tagged subsection_id 3 (part_of labels labels_part (items indirect_naming))
    (tagged subsection_id 4 (part_of types types_part (items naming))
    (tagged subsection_id 5 (part_of tables tables_part (items naming))
    (tagged subsection_id 6 (part_of memories memories_part (items naming))
    (tagged subsection_id 7 (part_of globals globals_part (items naming))
    (tagged subsection_id 8 (part_of elements elements_part (items naming))
    (tagged subsection_id 9 (part_of data_segments data_segments_part (items naming))
    (tagged subsection_id 10 (part_of fields fields_part (items indirect_naming))
    (tagged subsection_id 11 (part_of tags tags_part (items naming))
    (or_else (made unknown_of unknown_part (byte_where is_unknown ⊗ byte_list)))))))))))))))

-- The contents of a name section: subsections to the end. The standard wants them in ascending order of their ids, each
-- at most once. Here they may have any order and number.
-- namedata ::= modulenamesubsec? funcnamesubsec? localnamesubsec? ...
abbrev pub name_data : Format (List SubsectionParts)
name_data = to_end name_subsection
