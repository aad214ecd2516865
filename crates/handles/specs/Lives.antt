-- What an open handle means. The files are the nodes 0 to 7, by their numbers.
use Rattle.std.specs.Prelude.{ℕ, List, Some, None, Option}
use Rattle.types.specs.declared.flags.DescriptorFlags.{DescriptorFlags}
use Rattle.host.specs.declared.token.NodeKind.{NodeKind}
use Rattle.host.specs.declared.token.NodeKind.TheVariants.{File as FileNode, Directory as DirectoryNode}
use Rattle.host.specs.Meaning.{queue, place, Kind, file, directory, input, output, Live}
use Rattle.handles.specs.declared.open.Open.{Open}
use Rattle.handles.specs.declared.open.Open.TheVariants.{Free, Node as OpenNode, Stream, Stdin, Stdout, Stderr}
use Rattle.handles.specs.declared.open.Node.{Node}
use Rattle.handles.specs.declared.open.Node.TheVariants.{Directory, File}
use Rattle.handles.specs.Slots.{open_at}

abbrev pub directory_node : ℕ
directory_node = 8

abbrev pub stdin_node : ℕ
stdin_node = 9

abbrev pub stdout_node : ℕ
stdout_node = 10

abbrev pub stderr_node : ℕ
stderr_node = 11

abbrev pub standing : Kind → ℕ → DescriptorFlags → Option Live
standing kind node flags = Some (record { kind = kind; node = node; flags = flags })

abbrev pub node_number : Node → ℕ
node_number Directory = directory_node
node_number (File f) = f.number

abbrev pub node_kind : Node → Kind
node_kind Directory = directory
node_kind (File f) = file

abbrev pub opened_kind : Node → NodeKind
opened_kind Directory = DirectoryNode
opened_kind (File f) = FileNode

abbrev pub live_of : Open → Option Live
live_of Free = None
live_of (OpenNode opened) = standing (node_kind opened.node) (node_number opened.node) opened.flags
live_of (Stream stream) = standing (input (place stream.place)) stream.file.number stream.flags
live_of Stdin = standing (input queue) stdin_node (record { 0 = 0 })
live_of Stdout = standing output stdout_node (record { 0 = 0 })
live_of Stderr = standing output stderr_node (record { 0 = 0 })

abbrev pub lives : List Open → ℕ → Option Live
lives slots h = live_of (open_at slots h)
