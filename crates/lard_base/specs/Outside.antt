-- What was written where not all was, and what was read into a text.
use Rattle.std.specs.Prelude.{◌≡◌, ℕ, List, ◌++◌, Option}
use Rattle.std.specs.Io.KnownBytes.{Appends, Consumes, append_known}

-- a prefix of the bytes was written
pub record WrotePrefix (old new : Option (List ℕ)) (all : List ℕ) : Type 0 where
  pub front : List ℕ
  pub rest : List ℕ
  pub is : front ++ rest ≡ all
  pub written : Appends old new front

-- what a text gained was taken from the front of what was left
pub record TakesIn (left left_now : Option (List ℕ)) (old new : List ℕ) : Type 0 where
  pub taken : List ℕ
  pub consumed : Consumes left left_now taken
  pub text : new ≡ old ++ taken

-- a reader, and how often it failed
pub record ReaderState (R : Type 0) : Type 0 where
  pub reader : R
  pub faults : ℕ

-- a writer, the bytes that are held back from it, and how often it failed
pub record WriterState (W : Type 0) : Type 0 where
  pub writer : W
  pub held : List ℕ
  pub faults : ℕ

-- all bytes that a sink took, where its writer tells them: those that were passed on, and those that are held back
abbrev pub contents_of : {W : Type 0} → (W → Option (List ℕ)) → WriterState W → Option (List ℕ)
contents_of contents s = append_known (contents s.writer) s.held
