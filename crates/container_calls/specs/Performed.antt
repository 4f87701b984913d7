-- A call on a container, as a step over the values of its chunks.
use Rattle.std.specs.Prelude.{◌≡◌, ℕ, false, List, ◌++◌, length, drop, Some, None, Ok, Err, Option, Result}
use Rattle.std.specs.Result.{is_ok}
use Rattle.store.specs.declared.fault.Fault.{Fault}
use Rattle.store.specs.declared.space.Store.{Store}
use Rattle.iobuf.specs.Values.{Value}
use Rattle.iobuf.specs.declared.chunk.Chunk.{Ghosts}
use Rattle.ring.specs.Model.{items, limit}
use Rattle.ring.specs.declared.Ring.{Ring}
use Rattle.taking.specs.Rings.{values}
use Rattle.runs.specs.Calls.{Call as Step, append, prepend, advance, split_to, copy_to_bytes, Answer as Told, accepted, split, copied, refused, step}
use Rattle.container_calls.specs.declared.call.Call.{Call}
use Rattle.container_calls.specs.declared.call.Call.TheVariants.{Append, Prepend, Advance, SplitTo, CopyToBytes}

-- a call as a step: its chunk by the bytes that it has in the store s, its target by limit and count, its output by its places
abbrev pub step_of : {K : Type 0} → Ghosts K → (its_limit held places : ℕ) → Store → Call K → Step
step_of k its_limit held places s (Append x) = append (k.value s x).bytes
step_of k its_limit held places s (Prepend x) = prepend (k.value s x).bytes
step_of k its_limit held places s (Advance n) = advance n
step_of k its_limit held places s (SplitTo n) = split_to n its_limit held
step_of k its_limit held places s (CopyToBytes n) = copy_to_bytes n places

-- an answer to the caller: how many bytes were copied out, if the call copies, or why it was refused
abbrev pub Answer : Type 0
Answer = Result (Option ℕ) Fault

-- what the caller is answered; what was handed out stands elsewhere
abbrev pub told : Told → Answer
told accepted = Ok None
told (split chunks) = Ok None
told (copied n bs) = Ok (Some n)
told (refused f) = Err f

-- what a target that held the chunks ws holds after a call: what an accepted split handed out
abbrev pub target_after : Step → Told → List Value → List Value
target_after (append bs) a ws = ws
target_after (prepend bs) a ws = ws
target_after (advance n) a ws = ws
target_after (copy_to_bytes n places) a ws = ws
target_after (split_to n its_limit held) accepted ws = ws
target_after (split_to n its_limit held) (split chunks) ws = chunks
target_after (split_to n its_limit held) (copied m bs) ws = ws
target_after (split_to n its_limit held) (refused f) ws = ws

-- what stands in an output after a call: in front, the bytes that an accepted copying handed out
abbrev pub output_after : Step → Told → List ℕ → List ℕ
output_after (append bs) a out = out
output_after (prepend bs) a out = out
output_after (advance n) a out = out
output_after (split_to n its_limit held) a out = out
output_after (copy_to_bytes n places) accepted out = out
output_after (copy_to_bytes n places) (split chunks) out = out
output_after (copy_to_bytes n places) (copied m bs) out = bs ++ drop m out
output_after (copy_to_bytes n places) (refused f) out = out

-- a container b answered r to a call, and then is c: as the step says of the values of its chunks in every store; refused, it is the very same
pub record Stepped {K : Type 0} (k : Ghosts K) (call : Store → Step) (r : Answer) (b c : Ring K) : Type 0 where
  pub answer : (s : Store) → r ≡ told (step (limit b) (call s) (values k s b)).0
  pub chunks : (s : Store) → values k s c ≡ (step (limit b) (call s) (values k s b)).1
  pub limit : limit c ≡ limit b
  pub unmoved : is_ok r ≡ false → c ≡ b

-- what a split by b, which then is c, did with its target t, which then is u
pub record Splitting {K : Type 0} (k : Ghosts K) (n : ℕ) (r : Answer) (b c t u : Ring K) : Type 0 where
  pub container : Stepped k (λ _. split_to n (limit t) (length (items t))) r b c
  pub target : (s : Store) → values k s u ≡ target_after (split_to n (limit t) (length (items t))) (step (limit b) (split_to n (limit t) (length (items t))) (values k s b)).0 (values k s t)
  pub target_limit : limit u ≡ limit t
  pub target_unmoved : is_ok r ≡ false → u ≡ t

-- what a copying with the store m did with its output
pub record Copying {K : Type 0} (k : Ghosts K) (n : ℕ) (m : Store) (r : Answer) (b c : Ring K) (was is : List ℕ) : Type 0 where
  pub container : Stepped k (λ _. copy_to_bytes n (length was)) r b c
  pub output : is ≡ output_after (copy_to_bytes n (length was)) (step (limit b) (copy_to_bytes n (length was)) (values k m b)).0 was

-- the call q, with the store m, was answered by r: the container b then is c, the target t is u, and the output `was` is `is`
pub record Performed {K : Type 0} (k : Ghosts K) (q : Call K) (m : Store) (r : Answer) (b c t u : Ring K) (was is : List ℕ) : Type 0 where
  pub container : Stepped k (λ s. step_of k (limit t) (length (items t)) (length was) s q) r b c
  pub target : (s : Store) → values k s u ≡ target_after (step_of k (limit t) (length (items t)) (length was) s q) (step (limit b) (step_of k (limit t) (length (items t)) (length was) s q) (values k s b)).0 (values k s t)
  pub target_limit : limit u ≡ limit t
  pub target_unmoved : is_ok r ≡ false → u ≡ t
  pub output : is ≡ output_after (step_of k (limit t) (length (items t)) (length was) m q) (step (limit b) (step_of k (limit t) (length (items t)) (length was) m q) (values k m b)).0 was
