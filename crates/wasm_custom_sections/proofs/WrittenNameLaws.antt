-- The laws of decoded names that are written.
use Rattle.std.proofs.Common.{Bor, ◌≡◌, ℕ, suc, ◌^◌, ◌<◌, ◌⊎◌, inl, inr, List, [], ◌∷◌, ◌++◌, length, map, take, Result, Ok, Err, OnOk, IfErr, refl, sym, ap, ◌∙◌, subst, arith}
use Rattle.std.specs.Prelude.{Any}
use Rattle.std.specs.List.{All, AllByRecursion, flat_map}
use Rattle.std.proofs.lemmas.List.{length-map}
use Rattle.wasm_codec.specs.declared.encode.EncodeError.{EncodeError}
use Rattle.wasm_codec.specs.declared.encode.EncodeError.TheVariants.{Memory, TooLong}
use Rattle.wasm_codec.specs.Appending.{Appends}
use Rattle.wasm_codec.specs.Encoding.{byte_list_bytes, CanEncodeList, IsCount, IsListRefusal, IsRefusal, IsMinimal, IsTooLong, OnlyTooLong}
use Rattle.wasm_codec.specs.Lawful.{IsLawful}
use Rattle.wasm_codec.specs.Leb128.{unsigned_leb128}
use Rattle.wasm_codec.specs.Lists.{items_bytes}
use Rattle.wasm_codec.specs.formats.Combinators.{Format, items, u32}
use Rattle.wasm_codec.specs.formats.Grammar.{IsBytes}
use Rattle.wasm_codec.specs.formats.Numbers.{EncodesU32}
use Rattle.wasm_codec.proofs.FormatLaws.{Lawful-u32}
use Rattle.wasm_codec.proofs.NumberLaws.{written}
use Rattle.wasm_lists.proofs.WrittenLists.{in_range_of}
use Rattle.wasm_sections.specs.WrittenSections.{CountedList}
use Rattle.wasm_externals.specs.formats.Names.{name}
use Rattle.wasm_codec.proofs.AppendLaws.{appends_more, where_both_ok}
use Rattle.wasm_externals.proofs.NameLaws.{in_name}
use Rattle.wasm_custom_sections.specs.declared.name_maps.Naming.{Naming}
use Rattle.wasm_custom_sections.specs.declared.name_maps.IndirectNaming.{IndirectNaming}
use Rattle.wasm_custom_sections.specs.declared.names.NameSubsection.{NameSubsection}
use Rattle.wasm_custom_sections.specs.declared.names.NameSubsection.TheVariants as read
use Rattle.wasm_custom_sections.specs.WrittenNames.{AppendsSubsection, AreCountedNames, CountedItems, CountedNames, CountedSubsection, indirect_bytes, IsWrittenSubsection, naming_bytes, subsection_bytes, subsection_content}
use Rattle.wasm_custom_sections.specs.formats.NameParts.{IndirectParts, NamingParts, SubsectionParts, indirect_parts, naming_parts, subsection_id, subsection_parts, unknown}
use Rattle.wasm_custom_sections.specs.formats.Names.{indirect_naming, name_subsection, naming}
use Rattle.wasm_custom_sections.proofs.NamingLaws.{indirect_is_lawful, indirect_there, naming_is_lawful}
use Rattle.wasm_custom_sections.proofs.SubsectionLaws.{IsKind, subsection_is_lawful, module_name_kind, unknown_bytes, unknown_in_range}

-- ---- lists

-- lists whose items are taken apart
module _ {T V : Type 0} (view : T → V) (F : Format V) where
  flat_is : (xs : List T) → flat_map F.bytes (map view xs) ≡ flat_map (λ x. F.bytes (view x)) xs
  flat_is [] = refl
  flat_is (x ∷ xs) = ap (λ (t : List ℕ). F.bytes (view x) ++ t) (flat_is xs)

  list_is : (xs : List T) → (items F).bytes (map view xs) ≡ items_bytes (λ x. F.bytes (view x)) xs
  list_is xs = rw (length-map xs view) (ap (λ (t : List ℕ). unsigned_leb128 (length xs) ++ t) (flat_is xs))

  each_in_range : IsLawful F → (xs : List T) → All (λ x. IsMinimal F.Encodes F.bytes (view x)) xs → AllByRecursion F.InRange (map view xs)
  each_in_range law [] all = tt
  each_in_range law (x ∷ xs) all = (in_range_of F law (view x) (all 0 x (omega arith)), each_in_range law xs (λ k d lt. all (suc k) d (omega (arith, lt))))

  list_in_range : IsLawful F → (xs : List T) → IsCount (length xs) → All (λ x. IsMinimal F.Encodes F.bytes (view x)) xs → (items F).InRange (map view xs)
  list_in_range law xs few all = (subst IsCount (sym (length-map xs view)) few, each_in_range law xs all)

-- why a list of items isn't written
pub list_refused : {X T : Type 0} (Can : T → Type 0) (refuses : T → EncodeError → Type 0) (xs : List T) (r : Result X EncodeError) → IfErr r (IsListRefusal Can refuses xs) → IfErr r (λ e. (e ≡ Memory) ⊎ ((CanEncodeList Can xs → ⊥) × ((e ≡ TooLong) ⊎ Any (λ x. refuses x e) xs)))
list_refused Can refuses xs (Ok x) none = tt
list_refused Can refuses xs (Err e) (inl memory) = inl memory
list_refused Can refuses xs (Err e) (inr (inl (is, long))) = inr (λ can. let few : length xs < 2 ^ 32 = can.0 in omega (arith, few, long), inl is)
list_refused Can refuses xs (Err e) (inr (inr (k, x, lt, at, (cannot, refused)))) = inr (λ can. cannot (subst Can at (can.1 k x lt)), inr (k, x, lt, at, refused))

-- why a list of names isn't written after its size
pub names_refused : {X T : Type 0} (encoding : T → List ℕ) (Can : T → Type 0) (xs : List T) (r : Result X EncodeError) → IfErr r (λ e. ((e ≡ Memory) ⊎ ((CanEncodeList Can xs → ⊥) × ((e ≡ TooLong) ⊎ Any (λ x. e ≡ TooLong) xs))) ⊎ IsTooLong (length (items_bytes encoding xs)) e)
    → IfErr r (IsRefusal (CountedList encoding Can) OnlyTooLong xs)
names_refused encoding Can xs (Ok x) none = tt
names_refused encoding Can xs (Err e) (inl (inl memory)) = inl memory
names_refused encoding Can xs (Err e) (inl (inr (cannot, inl is))) = inr (λ can. cannot can.0, is)
names_refused encoding Can xs (Err e) (inl (inr (cannot, inr (k, x, lt, at, is)))) = inr (λ can. cannot can.0, is)
names_refused encoding Can xs (Err e) (inr (is, long)) = inr (λ can. let few : length (items_bytes encoding xs) < 2 ^ 32 = can.1 in omega (arith, few, long), is)

-- ---- names inside an item

pub indirect_are : (item : IndirectNaming) → unsigned_leb128 item.index ++ items_bytes naming_bytes item.names ≡ indirect_naming.bytes (indirect_parts item)
unfolding indirect_naming
indirect_are item = ap (λ (t : List ℕ). unsigned_leb128 item.index ++ t) (sym (list_is naming_parts naming item.names))

pub indirect_written : (item : IndirectNaming) → IsMinimal EncodesU32 unsigned_leb128 item.index → AreCountedNames item.names → All (λ n. IsMinimal naming.Encodes naming.bytes (naming_parts n)) item.names → IsMinimal indirect_naming.Encodes indirect_naming.bytes (indirect_parts item)
indirect_written item index can all = written indirect_is_lawful.minimal (indirect_parts item) (indirect_there (indirect_parts item) (in_range_of u32 Lawful-u32 item.index index) (list_in_range naming_parts naming naming_is_lawful item.names can.0 all))

-- ---- subsections

-- a subsection of this kind with these contents
module _ {V : Type 0} {id : ℕ} {make : V → SubsectionParts} {F : Format V} (kind : IsKind id make F) (s : NameSubsection) (v : V) (parts : subsection_parts s ≡ make v) (content : subsection_content s ≡ F.bytes v) where
  bytes_are : subsection_bytes s ≡ id ∷ byte_list_bytes (F.bytes v)
  bytes_are = ap (λ (n : ℕ). n ∷ byte_list_bytes (subsection_content s)) (ap subsection_id parts ∙ kind.id_is v) ∙ ap (λ (t : List ℕ). id ∷ byte_list_bytes t) content

  kind_written : F.InRange v → IsCount (length (F.bytes v)) → IsWrittenSubsection s
  kind_written fits few = λ known. (bytes_are ∙ sym (kind.bytes_are v) ∙ ap name_subsection.bytes (sym parts), subst (IsMinimal name_subsection.Encodes name_subsection.bytes) (sym parts) (written subsection_is_lawful.minimal (make v) (kind.in_range v (fits, few))))

  kind_appended : (old new : List ℕ) (r : Result (Unit {0}) EncodeError) → OnOk r (new ≡ old ++ id ∷ byte_list_bytes (F.bytes v)) → OnOk r (new ≡ old ++ subsection_bytes s)
  kind_appended old new r ok = subst (λ (t : List ℕ). OnOk r (new ≡ old ++ t)) (sym bytes_are) ok

-- a subsection of this kind with a list
module _ {T V : Type 0} {id : ℕ} {view : T → V} {make : List V → SubsectionParts} {F : Format V} (kind : IsKind id make (items F)) (law : IsLawful F) (Can : T → Type 0) (variant : List T → NameSubsection)
    (parts : (ys : List T) → subsection_parts (variant ys) ≡ make (map view ys)) (content : (ys : List T) → subsection_content (variant ys) ≡ items_bytes (λ x. F.bytes (view x)) ys)
    (counted : (ys : List T) → CountedList (λ x. F.bytes (view x)) Can ys → CountedSubsection (variant ys)) (counts : (ys : List T) → CountedSubsection (variant ys) → CountedList (λ x. F.bytes (view x)) Can ys) where
  content_of : (ys : List T) → subsection_content (variant ys) ≡ (items F).bytes (map view ys)
  content_of ys = content ys ∙ sym (list_is view F ys)

  list_written : (ys : List T) → CountedList (λ x. F.bytes (view x)) Can ys → All (λ x. IsMinimal F.Encodes F.bytes (view x)) ys → IsWrittenSubsection (variant ys)
  list_written ys can all = kind_written kind (variant ys) (map view ys) (parts ys) (content_of ys) (list_in_range view F law ys can.0.0 all) (subst (λ (t : List ℕ). IsCount (length t)) (sym (list_is view F ys)) can.1)

  list_appended : {r : Result (Unit {0}) EncodeError} {old new : List ℕ} (s : NameSubsection) (ys : List T) → s ≡ variant ys → Appends (id ∷ byte_list_bytes (items_bytes (λ x. F.bytes (view x)) ys)) (CountedList (λ x. F.bytes (view x)) Can ys) (All (λ x. IsMinimal F.Encodes F.bytes (view x)) ys) old new r
      → AppendsSubsection s old new r
  list_appended {r = r} {old = old} {new = new} s ys is call =
      let same = ap (λ (t : List ℕ). id ∷ byte_list_bytes t) (sym (list_is view F ys)) ∙ sym (bytes_are kind (variant ys) (map view ys) (parts ys) (content_of ys)) in
      subst (λ (t : NameSubsection). AppendsSubsection t old new r) (sym is) (appends_more same (counted ys) (counts ys) (list_written ys) call)

-- a name map of this kind
module _ {id : ℕ} {make : List NamingParts → SubsectionParts} (kind : IsKind id make (items naming)) (variant : List Naming → NameSubsection)
    (parts : (ys : List Naming) → subsection_parts (variant ys) ≡ make (map naming_parts ys)) (content : (ys : List Naming) → subsection_content (variant ys) ≡ items_bytes naming_bytes ys)
    (counted : (ys : List Naming) → CountedNames ys → CountedSubsection (variant ys)) (counts : (ys : List Naming) → CountedSubsection (variant ys) → CountedNames ys) where
  pub names_appended : {r : Result (Unit {0}) EncodeError} {old new : List ℕ} (s : NameSubsection) (ys : List Naming) → s ≡ variant ys → Appends (id ∷ byte_list_bytes (items_bytes naming_bytes ys)) (CountedNames ys) (All (λ n. IsMinimal naming.Encodes naming.bytes (naming_parts n)) ys) old new r → AppendsSubsection s old new r
  names_appended = list_appended kind naming_is_lawful (λ n. IsCount (length n.name.now)) variant parts content counted counts

-- an indirect name map of this kind
module _ {id : ℕ} {make : List IndirectParts → SubsectionParts} (kind : IsKind id make (items indirect_naming)) (variant : List IndirectNaming → NameSubsection)
    (parts : (ys : List IndirectNaming) → subsection_parts (variant ys) ≡ make (map indirect_parts ys)) (content : (ys : List IndirectNaming) → subsection_content (variant ys) ≡ items_bytes indirect_bytes ys)
    (counted : (ys : List IndirectNaming) → CountedItems ys → CountedSubsection (variant ys)) (counts : (ys : List IndirectNaming) → CountedSubsection (variant ys) → CountedItems ys) where
  pub items_appended : {r : Result (Unit {0}) EncodeError} {old new : List ℕ} (s : NameSubsection) (ys : List IndirectNaming) → s ≡ variant ys → Appends (id ∷ byte_list_bytes (items_bytes indirect_bytes ys)) (CountedItems ys) (All (λ i. IsMinimal indirect_naming.Encodes indirect_naming.bytes (indirect_parts i)) ys) old new r → AppendsSubsection s old new r
  items_appended = list_appended kind indirect_is_lawful (λ item. AreCountedNames item.names) variant parts content counted counts

-- the name of the module
text_refused : {X : Type 0} (s : NameSubsection) (text : List ℕ) (r : Result X EncodeError) → (CountedSubsection s → IsCount (length text) × IsCount (length (name.bytes text))) → IfErr r (λ e. ((e ≡ Memory) ⊎ ((IsCount (length text) → ⊥) × (e ≡ TooLong))) ⊎ IsTooLong (length (name.bytes text)) e)
    → IfErr r (IsRefusal CountedSubsection OnlyTooLong s)
text_refused s text (Ok x) counts none = tt
text_refused s text (Err e) counts (inl (inl memory)) = inl memory
text_refused s text (Err e) counts (inl (inr (cannot, is))) = inr (λ can. cannot (counts can).0, is)
text_refused s text (Err e) counts (inr (is, long)) = inr (λ can. let few : length (name.bytes text) < 2 ^ 32 = (counts can).1 in omega (arith, few, long), is)

pub module_appended : (s : NameSubsection) (text : Bor (List ℕ)) (old new : List ℕ) (r : Result (Unit {0}) EncodeError) → s ≡ read.Module text → OnOk r (new ≡ old ++ 0 ∷ byte_list_bytes (name.bytes text.now)) → OnOk r (IsCount (length text.now)) → OnOk r (IsCount (length (name.bytes text.now)))
    → OnOk r (IsMinimal name.Encodes name.bytes text.now) → IfErr r (λ e. ((e ≡ Memory) ⊎ ((IsCount (length text.now) → ⊥) × (e ≡ TooLong))) ⊎ IsTooLong (length (name.bytes text.now)) e) → take (length old) new ≡ old → AppendsSubsection s old new r
module_appended s text old new r is ok can few all refused kept = subst (λ (t : NameSubsection). AppendsSubsection t old new r) (sym is) (record {
  ok = kind_appended module_name_kind (read.Module text) text.now refl refl old new r ok;
  can = where_both_ok r (λ short whole. (short, whole)) can few;
  written = where_both_ok r (λ minimal whole. kind_written module_name_kind (read.Module text) text.now refl refl (in_name text.now minimal) whole) all few;
  refused = text_refused (read.Module text) text.now r (λ counted. counted) refused;
  kept = kept;
})

-- a subsection of an unknown id
unknown_written : (id : ℕ) (bytes : Bor (List ℕ)) → id < 256 → IsBytes bytes.now → IsCount (length bytes.now) → IsWrittenSubsection (read.Unknown id bytes)
unknown_written id bytes small are few = λ far. (sym (unknown_bytes id far bytes.now), written subsection_is_lawful.minimal (unknown id bytes.now) (unknown_in_range id far small bytes.now are few))

pub unknown_appended : {r : Result (Unit {0}) EncodeError} {old new : List ℕ} (s : NameSubsection) (id : ℕ) (bytes : Bor (List ℕ)) → s ≡ read.Unknown id bytes → id < 256 → IsBytes bytes.now → Appends (id ∷ byte_list_bytes bytes.now) (IsCount (length bytes.now)) (Unit {0}) old new r → AppendsSubsection s old new r
unknown_appended {r = r} {old = old} {new = new} s id bytes is small are call =
    subst (λ (t : NameSubsection). AppendsSubsection t old new r) (sym is) (appends_more refl (λ few. few) (λ few. few) (λ few done. unknown_written id bytes small are few) call)
