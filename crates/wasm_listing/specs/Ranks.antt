-- The positions of sections in a module (WebAssembly Core 3.0, Modules).
use Rattle.std.specs.Prelude.{ℕ, ◌==◌, ◌*◌, if◌then◌else◌}
use Rattle.wasm_code.specs.formats.Sections.{SectionParts}

-- The position of a section in the standard's order; 0 for a custom section, which may come anywhere. Sections come in
-- the order of their ids, but tags (13) come after memories (5), and the data count (12) after elements (9).
abbrev pub rank : SectionParts → ℕ
rank s = if s.id == 13 then 11 else if s.id == 12 then 19 else 2 * s.id
