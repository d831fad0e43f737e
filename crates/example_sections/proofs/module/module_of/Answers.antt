use Rattle.std.proofs.Common.{◌∷◌, [], refl}
use Rattle.wasm_encoder.specs.Sections.{section_of}
use Rattle.wasm_encoder.specs.EncodedLists.{body_bytes}
use Rattle.example_sections.specs.Exports.{body_of}
use Rattle.example_sections.proofs.module.module_of.Goals as goal

-- each call of `section` goes on with one section more
pub returns : goal.returns
returns c =
    let types = section_of (1, body_bytes c.args.types.now) in
    let functions = section_of (3, body_bytes c.args.functions.now) in
    let exports = section_of (7, body_of c.args.exports.now.exports.now) in
    let one = c.in_ok-section.ensures.appends.goes_on [] (body_bytes c.args.types.now) c.in_ok-module.ensures.ok refl in
    let two = c.in_ok-section-2.ensures.appends.goes_on (types ∷ []) (body_bytes c.args.functions.now) one refl in
    let three = c.in_ok-section-3.ensures.appends.goes_on (types ∷ functions ∷ []) (body_of c.args.exports.now.exports.now) two refl in
    c.in_ok-section-4.ensures.appends.goes_on (types ∷ functions ∷ exports ∷ []) (body_bytes c.args.code.now) three refl
