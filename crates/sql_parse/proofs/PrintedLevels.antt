-- The canonical text of each kind of expression.
use Rattle.std.proofs.Common.{◌≡◌, ℕ, Bool, List, ◌++◌, sym, ap, ◌∙◌, codes}
use Rattle.geo_base.specs.declared.cell.Cell.{Cell}
use Rattle.geo_base.specs.Texts.{cell_text}
use Rattle.sql_ast.specs.declared.ast.Ast.{Ast}
use Rattle.sql_ast.specs.declared.ast.Ast.TheOpen.{Ast-F}
use Rattle.sql_ast.specs.declared.ast.Ast.TheVariants as ast
use Rattle.sql_ast.specs.declared.ast.Ast.TheVariants.{rolls-Lit, rolls-Column, rolls-Neg, rolls-Not, rolls-Binary, rolls-IsNull}
use Rattle.sql_ast.specs.declared.ast.Ast.TheFolds.{fold-roll-Ast}
use Rattle.sql_ast.specs.declared.ast.AstOp.{AstOp}
use Rattle.sql_ast.specs.declared.ast.ColRef.{ColRef}
use Rattle.sql_ast.specs.Printing.{level_text, column_text, null_test_text, operator_text, expression_text}

pub literal_of : (cell : Cell) → expression_text (ast.Lit cell) ≡ cell_text cell
unfolding expression_text
literal_of cell = ap expression_text (sym (rolls-Lit cell)) ∙ fold-roll-Ast (List ℕ) level_text (Ast-F.Lit cell)

pub column_of : (column : ColRef) → expression_text (ast.Column column) ≡ column_text column
unfolding expression_text
column_of column = ap expression_text (sym (rolls-Column column)) ∙ fold-roll-Ast (List ℕ) level_text (Ast-F.Column column)

pub neg_of : (a : Ast) → expression_text (ast.Neg a) ≡ codes "-(" ++ expression_text a ++ codes ")"
unfolding expression_text
neg_of a = ap expression_text (sym (rolls-Neg a)) ∙ fold-roll-Ast (List ℕ) level_text (Ast-F.Neg a)

pub not_of : (a : Ast) → expression_text (ast.Not a) ≡ codes "(NOT " ++ expression_text a ++ codes ")"
unfolding expression_text
not_of a = ap expression_text (sym (rolls-Not a)) ∙ fold-roll-Ast (List ℕ) level_text (Ast-F.Not a)

pub binary_of : (o : AstOp) (a b : Ast) → expression_text (ast.Binary o a b) ≡ codes "(" ++ expression_text a ++ codes " " ++ operator_text o ++ codes " " ++ expression_text b ++ codes ")"
unfolding expression_text
binary_of o a b = ap expression_text (sym (rolls-Binary o a b)) ∙ fold-roll-Ast (List ℕ) level_text (Ast-F.Binary o a b)

pub null_test_of : (a : Ast) (is_not : Bool) → expression_text (ast.IsNull a is_not) ≡ codes "(" ++ expression_text a ++ null_test_text is_not ++ codes ")"
unfolding expression_text
null_test_of a is_not = ap expression_text (sym (rolls-IsNull a is_not)) ∙ fold-roll-Ast (List ℕ) level_text (Ast-F.IsNull a is_not)
