-- What the tokens of a text declare.
use Rattle.std.proofs.Common.{◌≡◌, ℕ, List, Ok, sym, subst}
use Rattle.nk_lex.specs.declared.token.Token.{Token}
use Rattle.nk_lex.specs.Lex.{tokens_of}
use Rattle.nk_names.specs.ReadBack.{DeclaresWritable}
use Rattle.nk_names.specs.Topologies.{DeclaresDeclarable}
use Rattle.nk_input.specs.Declarable.{TokensSayDeclared}

-- the tokens of a text declare fields and a topology that a text can declare
pub tokens_declare :
    DeclaresWritable → DeclaresDeclarable → (text : List ℕ) (ts us : List Token) → tokens_of text ≡ Ok ts → us ≡ ts
    → TokensSayDeclared us
tokens_declare writable declarable text ts us cut same =
    subst TokensSayDeclared (sym same) (λ ds read s said. record {
      fields = writable text ts ds s cut read said;
      topology = declarable ts ds s read said;
    })
