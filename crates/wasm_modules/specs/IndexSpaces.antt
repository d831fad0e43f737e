-- The operands of instructions that are indices of a module's items (WebAssembly Core 3.0, Indices and Instructions).
use Rattle.std.specs.Prelude.{ℕ, Bool, ◌||◌, ◌&&◌, ◌==◌, nat_le, Option, Some, None, if◌then◌else◌}
use Rattle.wasm_instructions.specs.declared.table.opcode.Prefix.TheVariants as prefixes
use Rattle.wasm_instructions.specs.declared.table.opcode.Opcode.{Opcode}
use Rattle.wasm_modules.specs.declared.indices.spaces.IndexSpace.{IndexSpace}
use Rattle.wasm_modules.specs.declared.indices.spaces.IndexSpace.TheVariants as spaces

-- The index spaces of the first and the second index. `None` means that it isn't an index of the module's items.
abbrev pub one : IndexSpace → Option IndexSpace × Option IndexSpace
one space = (Some space, None)

abbrev pub two : IndexSpace → IndexSpace → Option IndexSpace × Option IndexSpace
two first second = (Some first, Some second)

abbrev pub neither : Option IndexSpace × Option IndexSpace
neither = (None, None)

-- The number is in the range from `first` to `last`.
abbrev pub lies_in : ℕ → ℕ → ℕ → Bool
lies_in first last number = nat_le first number && nat_le number last

abbrev pub spaces_without_prefix : ℕ → Option IndexSpace × Option IndexSpace
spaces_without_prefix n =
    if n == 0x10 || n == 0x12 || n == 0xd2 then one spaces.Functions  -- call, return_call, ref.func
    else if n == 0x11 || n == 0x13 then two spaces.Types spaces.Tables  -- call_indirect, return_call_indirect
    else if n == 0x23 || n == 0x24 then one spaces.Globals  -- global.get, global.set
    else if n == 0x25 || n == 0x26 then one spaces.Tables  -- table.get, table.set
    else if n == 0x3f || n == 0x40 then one spaces.Memories  -- memory.size, memory.grow
    else if n == 0x07 || n == 0x08 || n == 0xe2 then one spaces.Tags  -- catch, throw, suspend
    -- call_ref, return_call_ref, cont.new, resume, resume_throw_ref
    else if n == 0x14 || n == 0x15 || n == 0xe0 || n == 0xe3 || n == 0xe5 then one spaces.Types
    else if n == 0xe1 then two spaces.Types spaces.Types  -- cont.bind
    else if n == 0xe4 || n == 0xe6 then two spaces.Types spaces.Tags  -- resume_throw, switch
    else neither

abbrev pub spaces_after_fb : ℕ → Option IndexSpace × Option IndexSpace
spaces_after_fb n =
    if n == 0x09 || n == 0x12 then two spaces.Types spaces.Data  -- array.new_data, array.init_data
    else if n == 0x0a || n == 0x13 then two spaces.Types spaces.Elements  -- array.new_elem, array.init_elem
    else if n == 0x11 then two spaces.Types spaces.Types  -- array.copy
    -- struct.new to array.set, array.fill, struct.new_desc, struct.new_default_desc, ref.get_desc
    else if lies_in 0x00 0x0e n || n == 0x10 || lies_in 0x20 0x22 n then one spaces.Types
    else neither

abbrev pub spaces_after_fc : ℕ → Option IndexSpace × Option IndexSpace
spaces_after_fc n =
    if n == 0x08 then two spaces.Data spaces.Memories  -- memory.init
    else if n == 0x09 then one spaces.Data  -- data.drop
    else if n == 0x0a then two spaces.Memories spaces.Memories  -- memory.copy
    else if n == 0x0b || n == 0x12 then one spaces.Memories  -- memory.fill, memory.discard
    else if n == 0x0c then two spaces.Elements spaces.Tables  -- table.init
    else if n == 0x0d then one spaces.Elements  -- elem.drop
    else if n == 0x0e then two spaces.Tables spaces.Tables  -- table.copy
    else if lies_in 0x0f 0x11 n then one spaces.Tables  -- table.grow, table.size, table.fill
    else neither

abbrev pub spaces_after_fe : ℕ → Option IndexSpace × Option IndexSpace
spaces_after_fe n =
    if lies_in 0x4f 0x57 n then one spaces.Globals  -- global.atomic.get to global.atomic.rmw.cmpxchg
    else if lies_in 0x58 0x5b n then one spaces.Tables  -- table.atomic.get to table.atomic.rmw.cmpxchg
    else if lies_in 0x5c 0x71 n then one spaces.Types  -- struct.atomic.get to array.atomic.rmw.cmpxchg
    else neither

-- The index spaces of the opcode's first and second index.
abbrev pub index_spaces : Opcode → Option IndexSpace × Option IndexSpace
index_spaces op = elim op.prefix [
  | prefixes.None ↦ spaces_without_prefix op.number
  | prefixes.Fb ↦ spaces_after_fb op.number
  | prefixes.Fc ↦ spaces_after_fc op.number
  | prefixes.Fd ↦ neither
  | prefixes.Fe ↦ spaces_after_fe op.number
]
