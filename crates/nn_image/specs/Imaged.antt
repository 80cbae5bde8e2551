-- What the image of a namespace is.
use Rattle.std.specs.Prelude.{◌≡◌, ℕ, Some}
use Rattle.std.specs.FinMap.{get}
use Rattle.nn_base.specs.Labels.{IsLabel}
use Rattle.nn_base.specs.Limits.{IsLong}
use Rattle.nn_base.specs.Paths.{Bytes, Names}
use Rattle.nn_tree.specs.declared.node.Node.{Node}
use Rattle.nn_tree.specs.Namespace.{Namespace, Nodes}
use Rattle.nn_tree.specs.Imaged.{IsImaged}
use Rattle.nn_message.specs.Messages.{IsNamespaceId, IsVarintNumber}
use Rattle.nn_image.specs.Image.{image_of}

-- Owners and groups have 1 to 32 bytes, which their type keeps.
abbrev pub AreLabelled : Nodes → Type 0
AreLabelled m = (p : Names) (node : Node) → get m p ≡ Some node → IsLabel node.owner × IsLabel node.group

-- the bytes are the image of a namespace at a transaction id, under a namespaceID and a layout
pub record IsImage (bytes : Bytes) (ns : Namespace) (id namespace layout : ℕ) : Type 0 where
  pub imaged : IsImaged ns
  pub labelled : AreLabelled ns.nodes
  pub long : IsLong id
  pub named : IsNamespaceId namespace
  pub laid : IsVarintNumber layout
  pub text : bytes ≡ image_of ns id namespace layout
