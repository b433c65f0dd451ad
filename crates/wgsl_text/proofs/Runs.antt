-- Runs of the machine over pieces, one part of a row after another.
use Rattle.std.proofs.Common.{◌≡◌, ℕ, Bool, true, false, cond, List, [], ◌∷◌, ◌++◌, refl, ap, ◌∙◌}
use Rattle.wgsl_text.specs.Token.{Token, Piece, TokenPiece, Blank, LineEnd, Indent}
use Rattle.wgsl_text.specs.Words.{is_builtin}
use Rattle.wgsl_text.proofs.Machine.{Reader, step, run, turned}

run_append : (ps qs : List Piece) (s : Reader) → run is_builtin (ps ++ qs) s
    ≡ run is_builtin qs (run is_builtin ps s)
run_append [] qs s = refl
run_append (TokenPiece t ∷ ps) qs s = run_append ps qs _
run_append (Blank ∷ ps) qs s = run_append ps qs s
run_append (LineEnd ∷ ps) qs s = run_append ps qs s
run_append (Indent n ∷ ps) qs s = run_append ps qs s

-- The pieces lead from one state to another.
pub record Runs (ps : List Piece) (s s' : Reader) : Type 0 where
  pub to : run is_builtin ps s ≡ s'

-- one part of a row, and then the others
infixr 10 ◌onward◌
pub ◌onward◌ : {ps qs : List Piece} {s s' s'' : Reader} → Runs ps s s' → Runs qs s' s'' → Runs (ps ++ qs) s s''
◌onward◌ {ps} {qs} {s} a b = record { to = run_append ps qs s ∙ (ap (run is_builtin qs) a.to ∙ b.to) }

-- a token, and then the others
pub reads : {t : Token} {qs : List Piece} {s s' : Reader} → Runs qs (step is_builtin s t) s' →
    Runs (TokenPiece t ∷ qs) s s'
reads b = record { to = b.to }

pub over_gap : {qs : List Piece} {s s' : Reader} → Runs qs s s' → Runs (Blank ∷ qs) s s'
over_gap b = record { to = b.to }

pub over_line : {qs : List Piece} {s s' : Reader} → Runs qs s s' → Runs (LineEnd ∷ qs) s s'
over_line b = record { to = b.to }

pub over_indent : {n : ℕ} {qs : List Piece} {s s' : Reader} → Runs qs s s' → Runs (Indent n ∷ qs) s s'
over_indent b = record { to = b.to }

pub as_reader : {qs : List Piece} {s t s' : Reader} → s ≡ t → Runs qs t s' → Runs qs s s'
as_reader {qs} e b = record { to = ap (run is_builtin qs) e ∙ b.to }

pub when_true : {b : Bool} {x : Reader} (y : Reader) → b ≡ true → cond b x y ≡ x
when_true {x} y e = ap (λ c. cond c x y) e

pub when_false : {b : Bool} (x : Reader) {y : Reader} → b ≡ false → cond b x y ≡ y
when_false x {y} e = ap (λ c. cond c x y) e

-- the last tokens of a row
pub at_end : {ps : List Piece} {s : Reader} → Runs ps s (run is_builtin ps s)
at_end = record { to = refl }

pub to_reader : {ps : List Piece} {s a b : Reader} → Runs ps s a → a ≡ b → Runs ps s b
to_reader r e = record { to = r.to ∙ e }

pub turned_back : {A : Type 0} (xs done : List A) → turned (turned xs done) [] ≡ turned done xs
turned_back [] done = refl
turned_back (x ∷ xs) done = turned_back xs (x ∷ done)
