-- The caller's memory after a C call, and the status that it returns.
use Rattle.std.specs.Prelude.{◌≡◌, ℕ, ◌<◌, ◌≤◌, ◌⊎◌, List, ◌++◌, length, drop, Result, Ok, Err}
use Rattle.wasm_codec.specs.declared.reader.ReadError.{ReadError}
use Rattle.wasm_codec.specs.declared.reader.refusal.Refusal.{Refusal}
use Rattle.wasm_codec.specs.declared.reader.ReadError.TheVariants as errors

-- ---- the caller's memory

-- The output begins with the minimal encoding, which has this length, and its other bytes are unchanged.
pub record BeginsWithNormal (Normal : List ℕ → Type 0) (old new : List ℕ) (count : ℕ) : Type 0 where
  pub encoding : List ℕ
  pub normal : Normal encoding
  pub len : count ≡ length encoding
  pub fits : count ≤ length old
  pub output : new ≡ encoding ++ drop count old

-- The minimal encoding has this length, and the output is shorter.
pub record IsOutputTooShort (Normal : List ℕ → Type 0) (old : List ℕ) (count : ℕ) : Type 0 where
  pub encoding : List ℕ
  pub normal : Normal encoding
  pub len : count ≡ length encoding
  pub long : length old < count

-- The minimal encoding has this length, and is shorter than the input.
pub record IsShorter (Normal : List ℕ → Type 0) (input : List ℕ) (count : ℕ) : Type 0 where
  pub encoding : List ℕ
  pub normal : Normal encoding
  pub len : count ≡ length encoding
  pub short : count < length input

-- ---- the statuses, as the C header numbers them

-- The status for success.
abbrev pub c_normal : ℕ
c_normal = 0

-- The status for a malformed input.
abbrev pub c_refused : ℕ
c_refused = 1

-- The status for an input that isn't minimally encoded.
abbrev pub c_not_normal : ℕ
c_not_normal = 2

-- The status for lack of memory.
abbrev pub c_no_memory : ℕ
c_no_memory = 3

-- The status for an output that is too short.
abbrev pub c_too_long : ℕ
c_too_long = 5

-- The status for a malformed pattern.
abbrev pub c_bad_pattern : ℕ
c_bad_pattern = 6

-- ---- the statuses of each call

-- The status is one of those of a normaliser into an output.
abbrev pub IsDelivery : ℕ → Type 0
IsDelivery status = (status ≡ c_normal) ⊎ (status ≡ c_refused) ⊎ (status ≡ c_no_memory) ⊎ (status ≡ c_too_long)

-- The status is one of those of a normaliser in place, or of a check.
abbrev pub IsAnswer : ℕ → Type 0
IsAnswer status = (status ≡ c_normal) ⊎ (status ≡ c_refused) ⊎ (status ≡ c_no_memory)

-- The status is one of those of `nosgrivel_rewrite_…`.
abbrev pub IsRewriting : ℕ → Type 0
IsRewriting status = (status ≡ c_normal) ⊎ (status ≡ c_refused)

-- The status is one of those of `nosgrivel_judge_…`.
abbrev pub IsJudgement : ℕ → Type 0
IsJudgement status = (status ≡ c_normal) ⊎ (status ≡ c_refused) ⊎ (status ≡ c_not_normal) ⊎ (status ≡ c_no_memory)

-- ---- from the result of a normaliser or a reader to the status

-- The status and the count report this error.
abbrev pub TellsRefusal : ReadError → ℕ → ℕ → ℕ → Type 0
TellsRefusal (errors.Refused at) old new status = (status ≡ c_refused) × (new ≡ at)
TellsRefusal errors.Memory old new status = (status ≡ c_no_memory) × (new ≡ old)

-- The normaliser's result was written, the output is too short for it, or its error was reported.
abbrev pub IsDelivered : {X : Type 0} → (X → List ℕ) → Result X ReadError → List ℕ → List ℕ → ℕ → ℕ → ℕ → Type 0
IsDelivered view (Ok x) old new before count status = (count ≡ length (view x)) × (
    ((status ≡ c_normal) × (count ≤ length old) × (new ≡ view x ++ drop count old))
    ⊎ ((status ≡ c_too_long) × (length old < count) × (new ≡ old)))
IsDelivered view (Err error) old new before count status = TellsRefusal error before count status × (new ≡ old)

-- The result has the input's length or not, as the status says, or the error was reported.
abbrev pub IsJudged : {X : Type 0} → (X → List ℕ) → Result X ReadError → ℕ → ℕ → ℕ → ℕ → Type 0
IsJudged view (Ok x) len before count status = (count ≡ length (view x)) × (
    ((status ≡ c_normal) × (count ≡ len)) ⊎ ((status ≡ c_not_normal) × (count ≡ len → ⊥)))
IsJudged view (Err error) len before count status = TellsRefusal error before count status

-- The check succeeded, or its error was reported.
abbrev pub IsChecked : {X : Type 0} → Result X ReadError → ℕ → ℕ → ℕ → ℕ → Type 0
IsChecked (Ok x) len before count status = (status ≡ c_normal) × (count ≡ len)
IsChecked (Err error) len before count status = TellsRefusal error before count status

-- The length of the encoding or the offset of the refusal was reported.
abbrev pub IsRewritten : Result ℕ Refusal → ℕ → ℕ → Type 0
IsRewritten (Ok len) count status = (status ≡ c_normal) × (count ≡ len)
IsRewritten (Err refusal) count status = (status ≡ c_refused) × (count ≡ refusal.at)
