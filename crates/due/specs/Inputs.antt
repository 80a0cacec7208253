-- What a run reads, told by what it is for and not by a file's name: two receivers may name the same file, and on a machine that
-- may hold something else when it is read again.
use Rattle.std.specs.Prelude.{ℕ, List}

-- the configuration; the log of a receiver, which are numbered from 1; a certificate; that of an offset of a sweep; a text of frames;
-- and a text of queries
pub data Input : Type 0 where
  Configuration : Input
  LogOf : (receiver : ℕ) → Input
  Certificate : Input
  CertificateAt : (offset : ℕ) → Input
  FramesText : Input
  QueriesText : Input

-- the bytes of each
abbrev pub Contents : Type 0
Contents = Input → List ℕ
