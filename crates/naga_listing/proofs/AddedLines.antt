-- Lines that are added one after another.
--
-- Throughout, before and now are all lines before some are added and then, and n and n' the numbers.
use Rattle.std.proofs.Common.{◌≡◌, ℕ, zero, suc, ◌+◌, ◌<◌, List, [], ◌∷◌, ◌++◌, add-one}
use Rattle.std.proofs.Common.{ap, ◌∙◌, sym, refl, arith, append_assoc, Bool, true, false}
use Rattle.std.proofs.lemmas.List.{append-nil}
use Rattle.std.specs.Hash.DefaultHasher.{wrapping_add}
use Rattle.naga_ir.specs.StatementTree.{StatementTree, BlockTree, no_statements, statement}
use Rattle.naga_ir.specs.StatementTree.{CaseTrees, case, has_no_statements}
use Rattle.naga_ir.specs.declared.statement.SwitchValue.{SwitchValue}
use Rattle.naga_listing.specs.declared.positions.Line.{Line}
use Rattle.naga_listing.specs.declared.positions.LineKind.{LineKind}
use Rattle.naga_listing.specs.declared.positions.LineKind.TheVariants as kind
use Rattle.naga_listing.specs.declared.positions.Spot.{Spot}
use Rattle.naga_listing.specs.declared.positions.Title.{Title}
use Rattle.naga_listing.specs.declared.positions.Title.TheVariants as title
use Rattle.naga_listing.specs.Lines.{after_block, after_cases, after_statement, another_lines}
use Rattle.naga_listing.specs.Lines.{block_lines, body_lines, case_lines, headed_lines, items_below}
use Rattle.naga_listing.specs.Lines.{line, section, spot_in, statement_lines}

-- one statement more of a block
pub block_more : (level n n' : ℕ) (b b' : BlockTree) (s : StatementTree)
    (before now whole : List Line) → b ≡ statement s b'
    → now ≡ before ++ statement_lines level n s → n' ≡ after_statement n s
    → before ++ block_lines level n b ≡ whole → now ++ block_lines level n' b' ≡ whole
block_more level n n' b b' s before now whole split added next so_far =
    ap (λ ls. ls ++ block_lines level n' b') added
    ∙ ap (λ m. (before ++ statement_lines level n s) ++ block_lines level m b') next
    ∙ append_assoc before (statement_lines level n s) (block_lines level (after_statement n s) b')
    ∙ ap (λ d. before ++ block_lines level n d) (sym split)
    ∙ so_far

pub block_number_more : (n n' : ℕ) (b b' : BlockTree) (s : StatementTree) (whole : ℕ)
    → b ≡ statement s b' → n' ≡ after_statement n s → after_block n b ≡ whole
    → after_block n' b' ≡ whole
block_number_more n n' b b' s whole split next so_far =
    ap (λ m. after_block m b') next ∙ ap (after_block n) (sym split) ∙ so_far

-- one case more
pub cases_more : (level n n' : ℕ) (cs cs' : CaseTrees) (v : SwitchValue) (b : BlockTree)
    (falls : Bool) (before now whole : List Line) → cs ≡ case v b falls cs'
    → now ≡ before ++ headed_lines (kind.Case v falls) level n b → n' ≡ after_block n b
    → before ++ case_lines level n cs ≡ whole → now ++ case_lines level n' cs' ≡ whole
cases_more level n n' cs cs' v b falls before now whole split added next so_far =
    ap (λ ls. ls ++ case_lines level n' cs') added
    ∙ ap (λ m. (before ++ headed_lines (kind.Case v falls) level n b) ++ case_lines level m cs') next
    ∙ append_assoc before (headed_lines (kind.Case v falls) level n b)
    (case_lines level (after_block n b) cs')
    ∙ ap (λ d. before ++ case_lines level n d) (sym split)
    ∙ so_far

pub cases_number_more : (n n' : ℕ) (cs cs' : CaseTrees) (v : SwitchValue) (b : BlockTree)
    (falls : Bool) (whole : ℕ) → cs ≡ case v b falls cs' → n' ≡ after_block n b
    → after_cases n cs ≡ whole → after_cases n' cs' ≡ whole
cases_number_more n n' cs cs' v b falls whole split next so_far =
    ap (λ m. after_cases m cs') next ∙ ap (after_cases n) (sym split) ∙ so_far

-- a line, and then those of the statements inside
pub first_then : (l : Line) (before middle now more : List Line) → middle ≡ before ++ (l ∷ [])
    → now ≡ middle ++ more → now ≡ before ++ (l ∷ more)
first_then l before middle now more first later =
    later ∙ ap (λ ls. ls ++ more) first ∙ append_assoc before (l ∷ []) more

-- the line that tells which block it is, and those of its statements
pub headed : (level one two n : ℕ) (r : LineKind) (b : BlockTree) (before middle now : List Line)
    → one ≡ wrapping_add level 1 → two ≡ wrapping_add level 2
    → middle ≡ before ++ (record { level = one; kind = r } ∷ [])
    → now ≡ middle ++ block_lines two n b → now ≡ before ++ headed_lines r level n b
headed level one two n r b before middle now is_one is_two first more =
    more
    ∙ ap (λ ls. ls ++ block_lines two n b) first
    ∙ append_assoc before (line one r ∷ []) (block_lines two n b)
    ∙ ap (λ k. before ++ (line k r ∷ block_lines two n b)) is_one
    ∙ ap (λ k. before ++ (line (wrapping_add level 1) r ∷ block_lines k n b)) is_two

-- a block without statements has no lines, and else it is headed
pub another : (r : LineKind) (level n : ℕ) (b : BlockTree) → has_no_statements b ≡ false
    → another_lines r level n b ≡ headed_lines r level n b
another r level n no_statements h = absurd (cc)
another r level n (statement s b) h = refl

pub no_other : (r : LineKind) (level n : ℕ) (b : BlockTree) (before : List Line)
    → has_no_statements b ≡ true → before ≡ before ++ another_lines r level n b
no_other r level n no_statements before h = sym (append-nil before)
no_other r level n (statement s b) before h = absurd (cc)

pub number_stays : (n : ℕ) (b : BlockTree) → has_no_statements b ≡ true → n ≡ after_block n b
number_stays n no_statements h = refl
number_stays n (statement s b) h = absurd (cc)

-- one item more of a list
pub items_more : (t : Title) (i : ℕ) (s : Spot) (start before now : List Line)
    → before ≡ start ++ items_below t i → s ≡ spot_in t i
    → now ≡ before ++ (record { level = 2; kind = kind.Item s } ∷ [])
    → now ≡ start ++ items_below t (i + 1)
items_more t i s start before now so_far is more =
    more
    ∙ ap (λ ls. ls ++ (line 2 (kind.Item s) ∷ [])) so_far
    ∙ append_assoc start (items_below t i) (line 2 (kind.Item s) ∷ [])
    ∙ ap (λ k. start ++ (items_below t i ++ (line 2 (kind.Item k) ∷ []))) is
    ∙ ap (λ n. start ++ items_below t n) (sym (add-one i))

-- a list that has items has a title
pub full_section : (t : Title) (count : ℕ) → 0 < count
    → section t count ≡ line 1 (kind.Title t) ∷ items_below t count
full_section t zero h = absurd (omega arith)
full_section t (suc count) h = refl

pub full_body : (b : BlockTree) → has_no_statements b ≡ false
    → body_lines b ≡ line 1 (kind.Title title.Statements) ∷ block_lines 2 0 b
full_body no_statements h = absurd (cc)
full_body (statement s b) h = refl

pub no_body : (b : BlockTree) (before : List Line) → has_no_statements b ≡ true
    → before ≡ before ++ body_lines b
no_body no_statements before h = sym (append-nil before)
no_body (statement s b) before h = absurd (cc)
